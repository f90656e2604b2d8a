-- What each operation of RV32I and RV32M computes (the manual's sections 2.4, 2.5 and 7.1, 7.2), of two register values or of a register's value and an immediate.
-- Of integers, `int_div` is the quotient rounded toward zero, `int_rem` the remainder with the sign of the dividend, `int_lt` and `int_le` are < and ≤.
use Rattle.std.specs.Prelude.{ℕ, ◌+◌, ◌-◌, ◌*◌, ◌/◌, ◌%◌, ◌^◌, Bool, cond, not, pos, ◌*ℤ◌, ◌==◌, bit_and, bit_or, bit_xor, int_div, int_le, int_lt, int_rem, nat_le, nat_lt}
use Rattle.std.specs.Int.Signed.{shr_z}
use Rattle.word.specs.Bits.{flag}
use Rattle.alu.specs.Integers.{signed, low_bits, upper}
use Rattle.isa.specs.declared.ArithOp.{ArithOp}
use Rattle.isa.specs.declared.ArithOp.TheVariants.{Add, Sub, Sll, Slt, Sltu, Xor, Srl, Sra, Or, And}
use Rattle.isa.specs.declared.ImmOp.{ImmOp}
use Rattle.isa.specs.declared.ImmOp.TheVariants.{Addi, Slti, Sltiu, Xori, Ori, Andi}
use Rattle.isa.specs.declared.ShiftOp.{ShiftOp}
use Rattle.isa.specs.declared.ShiftOp.TheVariants.{Slli, Srli, Srai}
use Rattle.isa.specs.declared.MulDivOp.{MulDivOp}
use Rattle.isa.specs.declared.MulDivOp.TheVariants.{Mul, Mulh, Mulhsu, Mulhu, Div, Divu, Rem, Remu}
use Rattle.isa.specs.declared.Cond.{Cond}
use Rattle.isa.specs.declared.Cond.TheVariants.{Beq, Bne, Blt, Bge, Bltu, Bgeu}

-- sums and differences are taken modulo 2 ^ 32
abbrev pub sum : ℕ → ℕ → ℕ
sum a b = (a + b) % 2 ^ 32

abbrev pub difference : ℕ → ℕ → ℕ
difference a b = (a + (2 ^ 32 - b)) % 2 ^ 32

-- register shifts use the low five bits
abbrev pub amount : ℕ → ℕ
amount b = b % 2 ^ 5

abbrev pub arith_of : ArithOp → ℕ → ℕ → ℕ
arith_of Add a b = sum a b
arith_of Sub a b = difference a b
arith_of Sll a b = a * 2 ^ amount b % 2 ^ 32
arith_of Slt a b = flag (int_lt (signed 32 a) (signed 32 b))
arith_of Sltu a b = flag (nat_lt a b)
arith_of Xor a b = bit_xor a b
arith_of Srl a b = a / 2 ^ amount b
arith_of Sra a b = low_bits 32 (shr_z (signed 32 a) (2 ^ amount b))
arith_of Or a b = bit_or a b
arith_of And a b = bit_and a b

-- with an immediate in the place of the second register
abbrev pub imm_of : ImmOp → ℕ → ℕ → ℕ
imm_of Addi a imm = arith_of Add a imm
imm_of Slti a imm = arith_of Slt a imm
imm_of Sltiu a imm = arith_of Sltu a imm
imm_of Xori a imm = arith_of Xor a imm
imm_of Ori a imm = arith_of Or a imm
imm_of Andi a imm = arith_of And a imm

abbrev pub shift_of : ShiftOp → ℕ → ℕ → ℕ
shift_of Slli a shamt = arith_of Sll a shamt
shift_of Srli a shamt = arith_of Srl a shamt
shift_of Srai a shamt = arith_of Sra a shamt

-- M: division by zero gives all ones, and leaves the dividend as remainder; quotients round toward zero. -2 ^ 31 by -1 needs no case: its quotient 2 ^ 31 has the bits of -2 ^ 31.
abbrev pub mul_div_of : MulDivOp → ℕ → ℕ → ℕ
mul_div_of Mul a b = a * b % 2 ^ 32
mul_div_of Mulh a b = upper (signed 32 a *ℤ signed 32 b)
mul_div_of Mulhsu a b = upper (signed 32 a *ℤ pos b)
mul_div_of Mulhu a b = upper (pos a *ℤ pos b)
mul_div_of Div a b = cond (b == 0) (2 ^ 32 - 1) (low_bits 32 (int_div (signed 32 a) (signed 32 b)))
mul_div_of Divu a b = cond (b == 0) (2 ^ 32 - 1) (a / b)
mul_div_of Rem a b = cond (b == 0) a (low_bits 32 (int_rem (signed 32 a) (signed 32 b)))
mul_div_of Remu a b = cond (b == 0) a (a % b)

-- whether a branch is taken
abbrev pub takes : Cond → ℕ → ℕ → Bool
takes Beq a b = a == b
takes Bne a b = not (a == b)
takes Blt a b = int_lt (signed 32 a) (signed 32 b)
takes Bge a b = int_le (signed 32 b) (signed 32 a)
takes Bltu a b = nat_lt a b
takes Bgeu a b = nat_le b a
