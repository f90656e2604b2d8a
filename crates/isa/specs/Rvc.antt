-- What 16 bits stand for, by the manual's tables 16.5 to 16.7 (RV32C, integer instructions). What has no row is illegal.
use Rattle.std.specs.Prelude.{ℕ, ◌+◌, ◌*◌, ◌/◌, ◌^◌, cond, List, [], ◌∷◌, eqb, None, Option, Some}
use Rattle.word.specs.Bits.{bits, low, sext}
use Rattle.word.specs.Tables.{find}
use Rattle.isa.specs.declared.Reg.{Reg}
use Rattle.isa.specs.declared.Inst.{Inst}
use Rattle.isa.specs.declared.Inst.TheVariants.{Lui, Jal, Jalr, Branch, Load, Store, Imm, Shift, Arith, Ebreak}
use Rattle.isa.specs.declared.Cond.{Cond}
use Rattle.isa.specs.declared.Cond.TheVariants.{Beq, Bne}
use Rattle.isa.specs.declared.LoadOp.TheVariants.{Lw}
use Rattle.isa.specs.declared.StoreOp.TheVariants.{Sw}
use Rattle.isa.specs.declared.ImmOp.TheVariants.{Addi, Andi}
use Rattle.isa.specs.declared.ShiftOp.{ShiftOp}
use Rattle.isa.specs.declared.ShiftOp.TheVariants.{Slli, Srli, Srai}
use Rattle.isa.specs.declared.ArithOp.{ArithOp}
use Rattle.isa.specs.declared.ArithOp.TheVariants.{Add, Sub, Xor, Or, And}
use Rattle.isa.specs.Registers.{reg, x0, ra, sp}

-- ---- fields

-- a register's number in bits 11 to 7 (rd, rs1) or 6 to 2 (rs2)
abbrev pub reg11_7 : ℕ → Reg
reg11_7 h = reg (bits h 11 7)

abbrev pub reg6_2 : ℕ → Reg
reg6_2 h = reg (bits h 6 2)

-- x8 to x15, by three bits: 9 to 7 (rs1'; rd' of CA and CB) or 4 to 2 (rs2'; rd' of CIW and CL)
abbrev pub short9_7 : ℕ → Reg
short9_7 h = reg (bits h 9 7 + 8)

abbrev pub short4_2 : ℕ → Reg
short4_2 h = reg (bits h 4 2 + 8)

-- ---- immediates: the bits of the halfword, each at its place

-- imm[5], imm[4:0]
abbrev pub imm6 : ℕ → ℕ
imm6 h = sext 6 (bits h 12 12 * 2 ^ 5 + bits h 6 2)

-- C.LUI: imm[17], imm[16:12], of which the text shows the bits 31 to 12
abbrev pub field_lui : ℕ → ℕ
field_lui h = sext 18 (bits h 12 12 * 2 ^ 17 + bits h 6 2 * 2 ^ 12) / 2 ^ 12

-- C.ADDI16SP: imm[9], imm[8:7], imm[6], imm[5], imm[4]
abbrev pub imm16sp : ℕ → ℕ
imm16sp h = sext 10 (bits h 12 12 * 2 ^ 9 + bits h 4 3 * 2 ^ 7 + bits h 5 5 * 2 ^ 6 + bits h 2 2 * 2 ^ 5 + bits h 6 6 * 2 ^ 4)

-- C.ADDI4SPN: uimm[9:6], uimm[5:4], uimm[3], uimm[2]
abbrev pub imm4spn : ℕ → ℕ
imm4spn h = bits h 10 7 * 2 ^ 6 + bits h 12 11 * 2 ^ 4 + bits h 5 5 * 2 ^ 3 + bits h 6 6 * 2 ^ 2

-- C.LW and C.SW: uimm[6], uimm[5:3], uimm[2]
abbrev pub imm_lw : ℕ → ℕ
imm_lw h = bits h 5 5 * 2 ^ 6 + bits h 12 10 * 2 ^ 3 + bits h 6 6 * 2 ^ 2

-- C.LWSP: uimm[7:6], uimm[5], uimm[4:2]
abbrev pub imm_lwsp : ℕ → ℕ
imm_lwsp h = bits h 3 2 * 2 ^ 6 + bits h 12 12 * 2 ^ 5 + bits h 6 4 * 2 ^ 2

-- C.SWSP: uimm[7:6], uimm[5:2]
abbrev pub imm_swsp : ℕ → ℕ
imm_swsp h = bits h 8 7 * 2 ^ 6 + bits h 12 9 * 2 ^ 2

-- C.J and C.JAL: imm[11], imm[10], imm[9:8], imm[7], imm[6], imm[5], imm[4], imm[3:1]
abbrev pub imm_cj : ℕ → ℕ
imm_cj h =
    sext 12 (bits h 12 12 * 2 ^ 11 + bits h 8 8 * 2 ^ 10 + bits h 10 9 * 2 ^ 8 + bits h 6 6 * 2 ^ 7 + bits h 7 7 * 2 ^ 6 + bits h 2 2 * 2 ^ 5
    + bits h 11 11 * 2 ^ 4
    + bits h 5 3 * 2 ^ 1)

-- C.BEQZ and C.BNEZ: imm[8], imm[7:6], imm[5], imm[4:3], imm[2:1]
abbrev pub imm_cb : ℕ → ℕ
imm_cb h = sext 9 (bits h 12 12 * 2 ^ 8 + bits h 6 5 * 2 ^ 6 + bits h 2 2 * 2 ^ 5 + bits h 11 10 * 2 ^ 3 + bits h 4 3 * 2 ^ 1)

-- ---- what may not be

-- legal unless the immediate is 0
abbrev pub nonzero : ℕ → Inst → Option Inst
nonzero imm i = cond (eqb imm 0) None (Some i)

-- legal only where bit 12 is 0
abbrev pub clear12 : ℕ → Inst → Option Inst
clear12 h i = cond (eqb (bits h 12 12) 0) (Some i) None

-- ---- quadrant 0, by the bits 15 to 13

abbrev pub c_addi4spn : ℕ → Option Inst
c_addi4spn h = nonzero (imm4spn h) (Imm Addi (short4_2 h) sp (imm4spn h))

abbrev pub c_lw : ℕ → Option Inst
c_lw h = Some (Load Lw (short4_2 h) (short9_7 h) (imm_lw h))

abbrev pub c_sw : ℕ → Option Inst
c_sw h = Some (Store Sw (short9_7 h) (short4_2 h) (imm_lw h))

abbrev pub quadrant0 : List (ℕ × (ℕ → Option Inst))
quadrant0 = (0b000, c_addi4spn) ∷ (0b010, c_lw) ∷ (0b110, c_sw) ∷ []

-- ---- quadrant 1

-- C.NOP too
abbrev pub c_addi : ℕ → Option Inst
c_addi h = Some (Imm Addi (reg11_7 h) (reg11_7 h) (imm6 h))

abbrev pub c_jal : ℕ → Option Inst
c_jal h = Some (Jal ra (imm_cj h))

abbrev pub c_li : ℕ → Option Inst
c_li h = Some (Imm Addi (reg11_7 h) x0 (imm6 h))

abbrev pub c_addi16sp : ℕ → Option Inst
c_addi16sp h = nonzero (imm16sp h) (Imm Addi sp sp (imm16sp h))

abbrev pub c_lui : ℕ → Option Inst
c_lui h = nonzero (field_lui h) (Lui (reg11_7 h) (field_lui h))

-- C.ADDI16SP where rd is 2, else C.LUI
abbrev pub c_upper : ℕ → Option Inst
c_upper h = cond (eqb (bits h 11 7) 2) (c_addi16sp h) (c_lui h)

-- C.SRLI and C.SRAI
abbrev pub c_shift : ShiftOp → ℕ → Option Inst
c_shift o h = clear12 h (Shift o (short9_7 h) (short9_7 h) (bits h 6 2))

abbrev pub c_andi : ℕ → Option Inst
c_andi h = Some (Imm Andi (short9_7 h) (short9_7 h) (imm6 h))

-- C.SUB, C.XOR, C.OR and C.AND, by the bits 6 to 5
abbrev pub pairs : List (ℕ × ArithOp)
pairs = (0b00, Sub) ∷ (0b01, Xor) ∷ (0b10, Or) ∷ (0b11, And) ∷ []

abbrev pub c_pair : ℕ → Option Inst
c_pair h = find None pairs (bits h 6 5) (λ o. clear12 h (Arith o (short9_7 h) (short9_7 h) (short4_2 h)))

-- MISC-ALU, by the bits 11 to 10. A row holds a function of the halfword; the row that is found is applied to h
abbrev pub alus : List (ℕ × (ℕ → Option Inst))
alus = (0b00, c_shift Srli) ∷ (0b01, c_shift Srai) ∷ (0b10, c_andi) ∷ (0b11, c_pair) ∷ []

abbrev pub illegal : ℕ → Option Inst
illegal h = None

abbrev pub c_alu : ℕ → Option Inst
c_alu h = find illegal alus (bits h 11 10) (λ m. m) h

abbrev pub c_j : ℕ → Option Inst
c_j h = Some (Jal x0 (imm_cj h))

-- C.BEQZ and C.BNEZ
abbrev pub c_branch : Cond → ℕ → Option Inst
c_branch o h = Some (Branch o (short9_7 h) x0 (imm_cb h))

abbrev pub quadrant1 : List (ℕ × (ℕ → Option Inst))
quadrant1 =
    (0b000, c_addi)
    ∷ (0b001, c_jal)
    ∷ (0b010, c_li)
    ∷ (0b011, c_upper)
    ∷ (0b100, c_alu)
    ∷ (0b101, c_j)
    ∷ (0b110, c_branch Beq)
    ∷ (0b111, c_branch Bne)
    ∷ []

-- ---- quadrant 2

abbrev pub c_slli : ℕ → Option Inst
c_slli h = clear12 h (Shift Slli (reg11_7 h) (reg11_7 h) (bits h 6 2))

abbrev pub c_lwsp : ℕ → Option Inst
c_lwsp h = nonzero (bits h 11 7) (Load Lw (reg11_7 h) sp (imm_lwsp h))

abbrev pub c_jr : ℕ → Option Inst
c_jr h = nonzero (bits h 11 7) (Jalr x0 (reg11_7 h) 0)

abbrev pub c_mv : ℕ → Option Inst
c_mv h = Some (Arith Add (reg11_7 h) x0 (reg6_2 h))

-- C.EBREAK where rs1 is 0
abbrev pub c_jalr : ℕ → Option Inst
c_jalr h = Some (cond (eqb (bits h 11 7) 0) Ebreak (Jalr ra (reg11_7 h) 0))

abbrev pub c_add : ℕ → Option Inst
c_add h = Some (Arith Add (reg11_7 h) (reg11_7 h) (reg6_2 h))

-- by bit 12 and whether rs2 is 0
abbrev pub c_register : ℕ → Option Inst
c_register h = cond (eqb (bits h 12 12) 0) (cond (eqb (bits h 6 2) 0) (c_jr h) (c_mv h)) (cond (eqb (bits h 6 2) 0) (c_jalr h) (c_add h))

abbrev pub c_swsp : ℕ → Option Inst
c_swsp h = Some (Store Sw sp (reg6_2 h) (imm_swsp h))

abbrev pub quadrant2 : List (ℕ × (ℕ → Option Inst))
quadrant2 = (0b000, c_slli) ∷ (0b010, c_lwsp) ∷ (0b100, c_register) ∷ (0b110, c_swsp) ∷ []

-- ---- all, by the low two bits. Those of a 32-bit instruction are 11

abbrev pub quadrants : List (ℕ × List (ℕ × (ℕ → Option Inst)))
quadrants = (0b00, quadrant0) ∷ (0b01, quadrant1) ∷ (0b10, quadrant2) ∷ []

unfoldable pub expanded : ℕ → Option Inst
expanded h = find illegal quadrants (low 2 h) (λ q. find illegal q (bits h 15 13) (λ m. m)) h
