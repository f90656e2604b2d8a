-- The word of an instruction, by the manual's formats (sections 2.2 and 2.3) and listings (chapter 24), and which instructions have one.
use Rattle.std.specs.Prelude.{ℕ, ◌+◌, ◌*◌, ◌%◌, ◌^◌, Bool, true, cond, ◌&&◌, eqb, ltb, None, Option, Some}
use Rattle.word.specs.Bits.{bits, low, sext}
use Rattle.isa.specs.declared.Reg.{Reg}
use Rattle.isa.specs.declared.Inst.{Inst}
use Rattle.isa.specs.declared.Inst.TheVariants.{Lui, Auipc, Jal, Jalr, Branch, Load, Store, Imm, Shift, Arith, Fence, Ecall, Ebreak, MulDiv}
use Rattle.isa.specs.declared.Cond.{Cond}
use Rattle.isa.specs.declared.Cond.TheVariants.{Beq, Bne, Blt, Bge, Bltu, Bgeu}
use Rattle.isa.specs.declared.LoadOp.{LoadOp}
use Rattle.isa.specs.declared.LoadOp.TheVariants.{Lb, Lh, Lw, Lbu, Lhu}
use Rattle.isa.specs.declared.StoreOp.{StoreOp}
use Rattle.isa.specs.declared.StoreOp.TheVariants.{Sb, Sh, Sw}
use Rattle.isa.specs.declared.ImmOp.{ImmOp}
use Rattle.isa.specs.declared.ImmOp.TheVariants.{Addi, Slti, Sltiu, Xori, Ori, Andi}
use Rattle.isa.specs.declared.ShiftOp.{ShiftOp}
use Rattle.isa.specs.declared.ShiftOp.TheVariants.{Slli, Srli, Srai}
use Rattle.isa.specs.declared.ArithOp.{ArithOp}
use Rattle.isa.specs.declared.ArithOp.TheVariants.{Add, Sub, Sll, Slt, Sltu, Xor, Srl, Sra, Or, And}
use Rattle.isa.specs.declared.MulDivOp.{MulDivOp}
use Rattle.isa.specs.declared.MulDivOp.TheVariants.{Mul, Mulh, Mulhsu, Mulhu, Div, Divu, Rem, Remu}

-- ---- what has a place in a word

abbrev pub reg_ok : Reg → Bool
reg_ok r = ltb r.number 32

-- imm is the sign extension of its k low bits: as a signed number it lies from -2 ^ (k - 1) to 2 ^ (k - 1) - 1
abbrev pub signed_ok : ℕ → ℕ → Bool
signed_ok k imm = eqb (sext k (low k imm)) imm

abbrev pub even_ok : ℕ → Bool
even_ok imm = eqb (imm % 2) 0

unfoldable pub in_range : Inst → Bool
in_range (Lui rd field) = reg_ok rd && ltb field (2 ^ 20)
in_range (Auipc rd field) = reg_ok rd && ltb field (2 ^ 20)
in_range (Jal rd imm) = reg_ok rd && (signed_ok 21 imm && even_ok imm)
in_range (Jalr rd rs1 imm) = reg_ok rd && (reg_ok rs1 && signed_ok 12 imm)
in_range (Branch o rs1 rs2 imm) = reg_ok rs1 && (reg_ok rs2 && (signed_ok 13 imm && even_ok imm))
in_range (Load o rd rs1 imm) = reg_ok rd && (reg_ok rs1 && signed_ok 12 imm)
in_range (Store o rs1 rs2 imm) = reg_ok rs1 && (reg_ok rs2 && signed_ok 12 imm)
in_range (Imm o rd rs1 imm) = reg_ok rd && (reg_ok rs1 && signed_ok 12 imm)
in_range (Shift o rd rs1 amount) = reg_ok rd && (reg_ok rs1 && ltb amount 32)
in_range (Arith o rd rs1 rs2) = reg_ok rd && (reg_ok rs1 && reg_ok rs2)
in_range (Fence rd rs1 field) = reg_ok rd && (reg_ok rs1 && ltb field (2 ^ 12))
in_range Ecall = true
in_range Ebreak = true
in_range (MulDiv o rd rs1 rs2) = reg_ok rd && (reg_ok rs1 && reg_ok rs2)

-- ---- the formats: each field at its place, from the high bits to the low

-- funct7 rs2 rs1 funct3 rd opcode
abbrev pub word_r : ℕ → ℕ → ℕ → ℕ → ℕ → ℕ → ℕ
word_r f7 t s f3 d op = low 7 f7 * 2 ^ 25 + low 5 t * 2 ^ 20 + low 5 s * 2 ^ 15 + low 3 f3 * 2 ^ 12 + low 5 d * 2 ^ 7 + low 7 op

-- imm[11:0] rs1 funct3 rd opcode
abbrev pub word_i : ℕ → ℕ → ℕ → ℕ → ℕ → ℕ
word_i imm s f3 d op = low 12 imm * 2 ^ 20 + low 5 s * 2 ^ 15 + low 3 f3 * 2 ^ 12 + low 5 d * 2 ^ 7 + low 7 op

-- imm[11:5] rs2 rs1 funct3 imm[4:0] opcode
abbrev pub word_s : ℕ → ℕ → ℕ → ℕ → ℕ → ℕ
word_s imm t s f3 op = bits imm 11 5 * 2 ^ 25 + low 5 t * 2 ^ 20 + low 5 s * 2 ^ 15 + low 3 f3 * 2 ^ 12 + low 5 imm * 2 ^ 7 + low 7 op

-- imm[12] imm[10:5] rs2 rs1 funct3 imm[4:1] imm[11] opcode
abbrev pub word_b : ℕ → ℕ → ℕ → ℕ → ℕ → ℕ
word_b imm t s f3 op =
    bits imm 12 12 * 2 ^ 31 + bits imm 10 5 * 2 ^ 25 + low 5 t * 2 ^ 20 + low 5 s * 2 ^ 15 + low 3 f3 * 2 ^ 12 + bits imm 4 1 * 2 ^ 8
    + bits imm 11 11 * 2 ^ 7
    + low 7 op

-- the 20-bit field imm[31:12], rd opcode
abbrev pub word_u : ℕ → ℕ → ℕ → ℕ
word_u field d op = low 20 field * 2 ^ 12 + low 5 d * 2 ^ 7 + low 7 op

-- imm[20] imm[10:1] imm[11] imm[19:12] rd opcode
abbrev pub word_j : ℕ → ℕ → ℕ → ℕ
word_j imm d op =
    bits imm 20 20 * 2 ^ 31 + bits imm 10 1 * 2 ^ 21 + bits imm 11 11 * 2 ^ 20 + bits imm 19 12 * 2 ^ 12 + low 5 d * 2 ^ 7 + low 7 op

-- ---- the codes of the operations: funct3, and funct7 where they have one

abbrev pub cond_code : Cond → ℕ
cond_code Beq = 0b000
cond_code Bne = 0b001
cond_code Blt = 0b100
cond_code Bge = 0b101
cond_code Bltu = 0b110
cond_code Bgeu = 0b111

abbrev pub load_code : LoadOp → ℕ
load_code Lb = 0b000
load_code Lh = 0b001
load_code Lw = 0b010
load_code Lbu = 0b100
load_code Lhu = 0b101

abbrev pub store_code : StoreOp → ℕ
store_code Sb = 0b000
store_code Sh = 0b001
store_code Sw = 0b010

abbrev pub imm_code : ImmOp → ℕ
imm_code Addi = 0b000
imm_code Slti = 0b010
imm_code Sltiu = 0b011
imm_code Xori = 0b100
imm_code Ori = 0b110
imm_code Andi = 0b111

abbrev pub shift_code : ShiftOp → ℕ
shift_code Slli = 0b001
shift_code Srli = 0b101
shift_code Srai = 0b101

abbrev pub shift_code7 : ShiftOp → ℕ
shift_code7 Slli = 0b0000000
shift_code7 Srli = 0b0000000
shift_code7 Srai = 0b0100000

abbrev pub arith_code : ArithOp → ℕ
arith_code Add = 0b000
arith_code Sub = 0b000
arith_code Sll = 0b001
arith_code Slt = 0b010
arith_code Sltu = 0b011
arith_code Xor = 0b100
arith_code Srl = 0b101
arith_code Sra = 0b101
arith_code Or = 0b110
arith_code And = 0b111

abbrev pub arith_code7 : ArithOp → ℕ
arith_code7 Add = 0b0000000
arith_code7 Sub = 0b0100000
arith_code7 Sll = 0b0000000
arith_code7 Slt = 0b0000000
arith_code7 Sltu = 0b0000000
arith_code7 Xor = 0b0000000
arith_code7 Srl = 0b0000000
arith_code7 Sra = 0b0100000
arith_code7 Or = 0b0000000
arith_code7 And = 0b0000000

abbrev pub mul_div_code : MulDivOp → ℕ
mul_div_code Mul = 0b000
mul_div_code Mulh = 0b001
mul_div_code Mulhsu = 0b010
mul_div_code Mulhu = 0b011
mul_div_code Div = 0b100
mul_div_code Divu = 0b101
mul_div_code Rem = 0b110
mul_div_code Remu = 0b111

-- ---- the listings

unfoldable pub word_of : Inst → ℕ
word_of (Lui rd field) = word_u field rd.number 0b0110111
word_of (Auipc rd field) = word_u field rd.number 0b0010111
word_of (Jal rd imm) = word_j imm rd.number 0b1101111
word_of (Jalr rd rs1 imm) = word_i imm rs1.number 0b000 rd.number 0b1100111
word_of (Branch o rs1 rs2 imm) = word_b imm rs2.number rs1.number (cond_code o) 0b1100011
word_of (Load o rd rs1 imm) = word_i imm rs1.number (load_code o) rd.number 0b0000011
word_of (Store o rs1 rs2 imm) = word_s imm rs2.number rs1.number (store_code o) 0b0100011
word_of (Imm o rd rs1 imm) = word_i imm rs1.number (imm_code o) rd.number 0b0010011
word_of (Shift o rd rs1 amount) = word_r (shift_code7 o) amount rs1.number (shift_code o) rd.number 0b0010011
word_of (Arith o rd rs1 rs2) = word_r (arith_code7 o) rs2.number rs1.number (arith_code o) rd.number 0b0110011
word_of (Fence rd rs1 field) = word_i field rs1.number 0b000 rd.number 0b0001111
word_of Ecall = 0x00000073
word_of Ebreak = 0x00100073
word_of (MulDiv o rd rs1 rs2) = word_r 0b0000001 rs2.number rs1.number (mul_div_code o) rd.number 0b0110011

abbrev pub encoded : Inst → Option ℕ
encoded i = cond (in_range i) (Some (word_of i)) None
