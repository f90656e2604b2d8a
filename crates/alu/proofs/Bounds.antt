-- What is computed of 32-bit numbers fits 32 bits.
use Rattle.std.proofs.Common.{ℕ, ◌+◌, ◌-◌, ◌*◌, ◌^◌, ◌<◌, Bool, eqb, ltb, ℤ, pos, negsuc, ◌*ℤ◌, lt_of_le_of_lt, mod-lt, div-le_self, arith, pow_pos}
use native.Mathlib.Nat.{mod-le}
use lib.Bits.{and_lt, or_lt, xor_lt}
use lib.Signed.{lt_z, shr_z, quot_z, rem_z}
use Rattle.word.specs.Bits.{flag}
use Rattle.word.proofs.Bools.{either, flag_le}
use Rattle.word.proofs.Scatter.{low_lt}
use Rattle.isa.specs.declared.ArithOp.{ArithOp}
use Rattle.isa.specs.declared.ArithOp.TheVariants.{Add, Sub, Sll, Slt, Sltu, Xor, Srl, Sra, Or, And}
use Rattle.isa.specs.declared.ImmOp.{ImmOp}
use Rattle.isa.specs.declared.ImmOp.TheVariants.{Addi, Slti, Sltiu, Xori, Ori, Andi}
use Rattle.isa.specs.declared.ShiftOp.{ShiftOp}
use Rattle.isa.specs.declared.ShiftOp.TheVariants.{Slli, Srli, Srai}
use Rattle.isa.specs.declared.MulDivOp.{MulDivOp}
use Rattle.isa.specs.declared.MulDivOp.TheVariants.{Mul, Mulh, Mulhsu, Mulhu, Div, Divu, Rem, Remu}
use Rattle.alu.specs.Arithmetic.{amount, arith_of, imm_of, shift_of, mul_div_of}
use Rattle.alu.specs.Integers.{signed, low_bits}

-- a word's bound
abbrev Word : ℕ → Type 0
Word v = v < 2 ^ 32

low_bits_lt : (k : ℕ) (z : ℤ) → low_bits k z < 2 ^ k
low_bits_lt k (pos n) = mod-lt n (pow_pos k)
low_bits_lt k (negsuc n) = let l = mod-lt n (pow_pos k) in omega arith

flag_lt : (t : Bool) → flag t < 2 ^ 32
flag_lt t = omega (arith, flag_le t)

pub arith_lt : (o : ArithOp) (a b : ℕ) → a < 2 ^ 32 → b < 2 ^ 32 → arith_of o a b < 2 ^ 32
arith_lt Add a b h k = low_lt (a + b) 32
arith_lt Sub a b h k = low_lt (a + (2 ^ 32 - b)) 32
arith_lt Sll a b h k = low_lt (a * 2 ^ amount b) 32
arith_lt Slt a b h k = flag_lt (lt_z (signed 32 a) (signed 32 b))
arith_lt Sltu a b h k = flag_lt (ltb a b)
arith_lt Xor a b h k = xor_lt 32 a b h k
arith_lt Srl a b h k = lt_of_le_of_lt (div-le_self a (2 ^ amount b)) h
arith_lt Sra a b h k = low_bits_lt 32 (shr_z (signed 32 a) (2 ^ amount b))
arith_lt Or a b h k = or_lt 32 a b h k
arith_lt And a b h k = and_lt 32 a b h k

pub imm_lt : (o : ImmOp) (a b : ℕ) → a < 2 ^ 32 → b < 2 ^ 32 → imm_of o a b < 2 ^ 32
imm_lt Addi = arith_lt Add
imm_lt Slti = arith_lt Slt
imm_lt Sltiu = arith_lt Sltu
imm_lt Xori = arith_lt Xor
imm_lt Ori = arith_lt Or
imm_lt Andi = arith_lt And

pub shift_lt : (o : ShiftOp) (a b : ℕ) → a < 2 ^ 32 → b < 2 ^ 32 → shift_of o a b < 2 ^ 32
shift_lt Slli = arith_lt Sll
shift_lt Srli = arith_lt Srl
shift_lt Srai = arith_lt Sra

pub muldiv_lt : (o : MulDivOp) (a b : ℕ) → a < 2 ^ 32 → b < 2 ^ 32 → mul_div_of o a b < 2 ^ 32
muldiv_lt Mul a b h k = low_lt (a * b) 32
muldiv_lt Mulh a b h k = low_bits_lt 32 (shr_z (signed 32 a *ℤ signed 32 b) (2 ^ 32))
muldiv_lt Mulhsu a b h k = low_bits_lt 32 (shr_z (signed 32 a *ℤ pos b) (2 ^ 32))
muldiv_lt Mulhu a b h k = low_bits_lt 32 (shr_z (pos a *ℤ pos b) (2 ^ 32))
muldiv_lt Div a b h k = either Word (eqb b 0) _ _ (omega arith) (low_bits_lt 32 (quot_z (signed 32 a) (signed 32 b)))
muldiv_lt Divu a b h k = either Word (eqb b 0) _ _ (omega arith) (lt_of_le_of_lt (div-le_self a b) h)
muldiv_lt Rem a b h k = either Word (eqb b 0) _ _ h (low_bits_lt 32 (rem_z (signed 32 a) (signed 32 b)))
muldiv_lt Remu a b h k = either Word (eqb b 0) _ _ h (lt_of_le_of_lt (mod-le a b) h)
