-- The 48 operations in the paper's order, numbered from 0, and an instruction as numbers.
use Rattle.std.specs.Prelude.{ℕ, Bool, ◌&&◌, eqb}
use Rattle.isa.specs.declared.Inst.{Inst}
use Rattle.isa.specs.declared.Inst.TheVariants.{Lui, Auipc, Jal, Jalr, Branch, Load, Store, Imm, Shift, Arith, Fence, Ecall, Ebreak, MulDiv}
use Rattle.isa.specs.declared.Cond.{Cond}
use Rattle.isa.specs.declared.Cond.TheVariants.{Beq, Bne, Blt, Bge, Bltu, Bgeu}
use Rattle.isa.specs.declared.LoadOp.{LoadOp}
use Rattle.isa.specs.declared.LoadOp.TheVariants.{Lb, Lh, Lw, Lbu, Lhu}
use Rattle.isa.specs.declared.StoreOp.{StoreOp}
use Rattle.isa.specs.declared.StoreOp.TheVariants.{Sb, Sh, Sw}
use Rattle.isa.specs.declared.ImmOp.{ImmOp}
use Rattle.isa.specs.declared.ImmOp.TheVariants.{Addi, Slti, Sltiu, Xori, Ori, Andi}
use Rattle.isa.specs.declared.ShiftOp.{ShiftOp}
use Rattle.isa.specs.declared.ShiftOp.TheVariants.{Slli, Srli, Srai}
use Rattle.isa.specs.declared.ArithOp.{ArithOp}
use Rattle.isa.specs.declared.ArithOp.TheVariants.{Add, Sub, Sll, Slt, Sltu, Xor, Srl, Sra, Or, And}
use Rattle.isa.specs.declared.MulDivOp.{MulDivOp}
use Rattle.isa.specs.declared.MulDivOp.TheVariants.{Mul, Mulh, Mulhsu, Mulhu, Div, Divu, Rem, Remu}
use Rattle.isa.specs.declared.Parts.{Parts}

abbrev pub cond_number : Cond → ℕ
cond_number Beq = 4
cond_number Bne = 5
cond_number Blt = 6
cond_number Bge = 7
cond_number Bltu = 8
cond_number Bgeu = 9

abbrev pub load_number : LoadOp → ℕ
load_number Lb = 10
load_number Lh = 11
load_number Lw = 12
load_number Lbu = 13
load_number Lhu = 14

abbrev pub store_number : StoreOp → ℕ
store_number Sb = 15
store_number Sh = 16
store_number Sw = 17

abbrev pub imm_number : ImmOp → ℕ
imm_number Addi = 18
imm_number Slti = 19
imm_number Sltiu = 20
imm_number Xori = 21
imm_number Ori = 22
imm_number Andi = 23

abbrev pub shift_number : ShiftOp → ℕ
shift_number Slli = 24
shift_number Srli = 25
shift_number Srai = 26

abbrev pub arith_number : ArithOp → ℕ
arith_number Add = 27
arith_number Sub = 28
arith_number Sll = 29
arith_number Slt = 30
arith_number Sltu = 31
arith_number Xor = 32
arith_number Srl = 33
arith_number Sra = 34
arith_number Or = 35
arith_number And = 36

abbrev pub mul_div_number : MulDivOp → ℕ
mul_div_number Mul = 40
mul_div_number Mulh = 41
mul_div_number Mulhsu = 42
mul_div_number Mulhu = 43
mul_div_number Div = 44
mul_div_number Divu = 45
mul_div_number Rem = 46
mul_div_number Remu = 47

abbrev pub parts : ℕ → ℕ → ℕ → ℕ → ℕ → Parts
parts o d s t i = record { operation = o; rd = d; rs1 = s; rs2 = t; imm = i }

-- the operation's number, then rd, rs1, rs2 and the immediate, 0 for each that the instruction does not have
abbrev pub parts_of : Inst → Parts
parts_of (Lui rd field) = parts 0 rd.number 0 0 field
parts_of (Auipc rd field) = parts 1 rd.number 0 0 field
parts_of (Jal rd imm) = parts 2 rd.number 0 0 imm
parts_of (Jalr rd rs1 imm) = parts 3 rd.number rs1.number 0 imm
parts_of (Branch o rs1 rs2 imm) = parts (cond_number o) 0 rs1.number rs2.number imm
parts_of (Load o rd rs1 imm) = parts (load_number o) rd.number rs1.number 0 imm
parts_of (Store o rs1 rs2 imm) = parts (store_number o) 0 rs1.number rs2.number imm
parts_of (Imm o rd rs1 imm) = parts (imm_number o) rd.number rs1.number 0 imm
parts_of (Shift o rd rs1 amount) = parts (shift_number o) rd.number rs1.number 0 amount
parts_of (Arith o rd rs1 rs2) = parts (arith_number o) rd.number rs1.number rs2.number 0
parts_of (Fence rd rs1 field) = parts 37 rd.number rs1.number 0 field
parts_of Ecall = parts 38 0 0 0 0
parts_of Ebreak = parts 39 0 0 0 0
parts_of (MulDiv o rd rs1 rs2) = parts (mul_div_number o) rd.number rs1.number rs2.number 0

-- the same operation and the same operands
abbrev pub same_parts : Parts → Parts → Bool
same_parts a b =
    eqb a.operation b.operation && (eqb a.rd b.rd && (eqb a.rs1 b.rs1 && (eqb a.rs2 b.rs2 && eqb a.imm b.imm)))
