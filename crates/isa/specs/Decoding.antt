-- What 32 bits mean, by the manual's listings of RV32I and RV32M (chapter 24): tables of codes. What has no row is illegal.
use Rattle.std.specs.Prelude.{ℕ, List, [], ◌∷◌, None, Option, Some}
use Rattle.word.specs.Tables.{find}
use Rattle.isa.specs.Fields.{opcode, rd, funct3, rs1, rs2, shamt, funct7, funct12, imm_i, imm_s, imm_b, field_u, imm_j}
use Rattle.isa.specs.declared.Reg.{Reg}
use Rattle.isa.specs.declared.Inst.{Inst}
use Rattle.isa.specs.declared.Inst.TheVariants.{Lui, Auipc, Jal, Jalr, Branch, Load, Store, Imm, Shift, Arith, Fence, Ecall, Ebreak, MulDiv}
use Rattle.isa.specs.declared.Cond.{Cond}
use Rattle.isa.specs.declared.Cond.TheVariants.{Beq, Bne, Blt, Bge, Bltu, Bgeu}
use Rattle.isa.specs.declared.LoadOp.{LoadOp}
use Rattle.isa.specs.declared.LoadOp.TheVariants.{Lb, Lh, Lw, Lbu, Lhu}
use Rattle.isa.specs.declared.StoreOp.{StoreOp}
use Rattle.isa.specs.declared.StoreOp.TheVariants.{Sb, Sh, Sw}
use Rattle.isa.specs.declared.ImmOp.TheVariants.{Addi, Slti, Sltiu, Xori, Ori, Andi}
use Rattle.isa.specs.declared.ShiftOp.{ShiftOp}
use Rattle.isa.specs.declared.ShiftOp.TheVariants.{Slli, Srli, Srai}
use Rattle.isa.specs.declared.ArithOp.{ArithOp}
use Rattle.isa.specs.declared.ArithOp.TheVariants.{Add, Sub, Sll, Slt, Sltu, Xor, Srl, Sra, Or, And}
use Rattle.isa.specs.declared.MulDivOp.{MulDivOp}
use Rattle.isa.specs.declared.MulDivOp.TheVariants.{Mul, Mulh, Mulhsu, Mulhu, Div, Divu, Rem, Remu}

-- BRANCH, by funct3
abbrev pub branches : List (ℕ × Cond)
branches = (0b000, Beq) ∷ (0b001, Bne) ∷ (0b100, Blt) ∷ (0b101, Bge) ∷ (0b110, Bltu) ∷ (0b111, Bgeu) ∷ []

abbrev pub decode_branch : ℕ → Reg → Reg → ℕ → Option Inst
decode_branch f3 s t imm = find None branches f3 (λ o. Some (Branch o s t imm))

-- LOAD, by funct3
abbrev pub loads : List (ℕ × LoadOp)
loads = (0b000, Lb) ∷ (0b001, Lh) ∷ (0b010, Lw) ∷ (0b100, Lbu) ∷ (0b101, Lhu) ∷ []

abbrev pub decode_load : ℕ → Reg → Reg → ℕ → Option Inst
decode_load f3 d s imm = find None loads f3 (λ o. Some (Load o d s imm))

-- STORE, by funct3
abbrev pub stores : List (ℕ × StoreOp)
stores = (0b000, Sb) ∷ (0b001, Sh) ∷ (0b010, Sw) ∷ []

abbrev pub decode_store : ℕ → Reg → Reg → ℕ → Option Inst
decode_store f3 s t imm = find None stores f3 (λ o. Some (Store o s t imm))

-- OP-IMM with funct3 001, by funct7
abbrev pub lefts : List (ℕ × ShiftOp)
lefts = (0b0000000, Slli) ∷ []

-- OP-IMM with funct3 101, by funct7
abbrev pub rights : List (ℕ × ShiftOp)
rights = (0b0000000, Srli) ∷ (0b0100000, Srai) ∷ []

abbrev pub decode_shift : List (ℕ × ShiftOp) → ℕ → Reg → Reg → ℕ → Option Inst
decode_shift rows f7 d s amount = find None rows f7 (λ o. Some (Shift o d s amount))

-- OP-IMM, by funct3
abbrev pub immediates : ℕ → Reg → Reg → ℕ → ℕ → List (ℕ × Option Inst)
immediates f7 d s amount imm =
    (0b000, Some (Imm Addi d s imm))
    ∷ (0b010, Some (Imm Slti d s imm))
    ∷ (0b011, Some (Imm Sltiu d s imm))
    ∷ (0b100, Some (Imm Xori d s imm))
    ∷ (0b110, Some (Imm Ori d s imm))
    ∷ (0b111, Some (Imm Andi d s imm))
    ∷ (0b001, decode_shift lefts f7 d s amount)
    ∷ (0b101, decode_shift rights f7 d s amount)
    ∷ []

abbrev pub decode_immediate : ℕ → ℕ → Reg → Reg → ℕ → ℕ → Option Inst
decode_immediate f3 f7 d s amount imm = find None (immediates f7 d s amount imm) f3 (λ m. m)

-- OP with funct7 0000000, by funct3
abbrev pub ariths : List (ℕ × ArithOp)
ariths = (0b000, Add) ∷ (0b001, Sll) ∷ (0b010, Slt) ∷ (0b011, Sltu) ∷ (0b100, Xor) ∷ (0b101, Srl) ∷ (0b110, Or) ∷ (0b111, And) ∷ []

-- OP with funct7 0100000, by funct3
abbrev pub others : List (ℕ × ArithOp)
others = (0b000, Sub) ∷ (0b101, Sra) ∷ []

abbrev pub decode_arith : List (ℕ × ArithOp) → ℕ → Reg → Reg → Reg → Option Inst
decode_arith rows f3 d s t = find None rows f3 (λ o. Some (Arith o d s t))

-- OP with funct7 0000001, by funct3: RV32M
abbrev pub mul_divs : List (ℕ × MulDivOp)
mul_divs = (0b000, Mul) ∷ (0b001, Mulh) ∷ (0b010, Mulhsu) ∷ (0b011, Mulhu) ∷ (0b100, Div) ∷ (0b101, Divu) ∷ (0b110, Rem) ∷ (0b111, Remu) ∷ []

abbrev pub decode_mul_div : ℕ → Reg → Reg → Reg → Option Inst
decode_mul_div f3 d s t = find None mul_divs f3 (λ o. Some (MulDiv o d s t))

-- OP, by funct7
abbrev pub registers : ℕ → Reg → Reg → Reg → List (ℕ × Option Inst)
registers f3 d s t =
    (0b0000000, decode_arith ariths f3 d s t)
    ∷ (0b0100000, decode_arith others f3 d s t)
    ∷ (0b0000001, decode_mul_div f3 d s t)
    ∷ []

abbrev pub decode_register : ℕ → ℕ → Reg → Reg → Reg → Option Inst
decode_register f7 f3 d s t = find None (registers f3 d s t) f7 (λ m. m)

-- JALR and MISC-MEM have funct3 000 alone: fence.i is illegal
abbrev pub decode_jalr : ℕ → Reg → Reg → ℕ → Option Inst
decode_jalr f3 d s imm = find None ((0b000, Some (Jalr d s imm)) ∷ []) f3 (λ m. m)

abbrev pub decode_fence : ℕ → Reg → Reg → ℕ → Option Inst
decode_fence f3 d s field = find None ((0b000, Some (Fence d s field)) ∷ []) f3 (λ m. m)

-- SYSTEM: two whole words
abbrev pub systems : List (ℕ × Inst)
systems = (0x00000073, Ecall) ∷ (0x00100073, Ebreak) ∷ []

abbrev pub decode_system : ℕ → Option Inst
decode_system w = find None systems w (λ i. Some i)

-- all, by the opcode, whose low two bits are 11
abbrev pub opcodes : ℕ → List (ℕ × Option Inst)
opcodes w =
    (0b0110111, Some (Lui (rd w) (field_u w)))
    ∷ (0b0010111, Some (Auipc (rd w) (field_u w)))
    ∷ (0b1101111, Some (Jal (rd w) (imm_j w)))
    ∷ (0b1100111, decode_jalr (funct3 w) (rd w) (rs1 w) (imm_i w))
    ∷ (0b1100011, decode_branch (funct3 w) (rs1 w) (rs2 w) (imm_b w))
    ∷ (0b0000011, decode_load (funct3 w) (rd w) (rs1 w) (imm_i w))
    ∷ (0b0100011, decode_store (funct3 w) (rs1 w) (rs2 w) (imm_s w))
    ∷ (0b0010011, decode_immediate (funct3 w) (funct7 w) (rd w) (rs1 w) (shamt w) (imm_i w))
    ∷ (0b0110011, decode_register (funct7 w) (funct3 w) (rd w) (rs1 w) (rs2 w))
    ∷ (0b0001111, decode_fence (funct3 w) (rd w) (rs1 w) (funct12 w))
    ∷ (0b1110011, decode_system w)
    ∷ []

unfoldable pub decoded : ℕ → Option Inst
decoded w = find None (opcodes w) (opcode w) (λ m. m)
