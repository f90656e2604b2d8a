-- The paper's words on division, for the operations div, divu, rem and remu.
-- Each statement is proved in proofs/Divisions.antt.
use Rattle.std.specs.Prelude.{◌≡◌, ℕ, ◌-◌, ◌^◌, negsuc}
use Rattle.isa.specs.declared.MulDivOp.TheVariants.{Div, Divu, Rem, Remu}
use Rattle.alu.specs.Arithmetic.{mul_div_of}
use Rattle.alu.specs.Integers.{low_bits}

-- division by zero: quotient all ones, remainder the dividend
abbrev pub ByZero : Type 0
ByZero =
    (a : ℕ)
    → (mul_div_of Div a 0 ≡ 2 ^ 32 - 1) × (mul_div_of Divu a 0 ≡ 2 ^ 32 - 1) × (mul_div_of Rem a 0 ≡ a) × (mul_div_of Remu a 0 ≡ a)

-- the 32 bits of -2 ^ 31 and of -1
abbrev pub lowest : ℕ
lowest = low_bits 32 (negsuc (2 ^ 31 - 1))

abbrev pub minus_one : ℕ
minus_one = low_bits 32 (negsuc 0)

-- -2 ^ 31 divided by -1: quotient -2 ^ 31, remainder 0
abbrev pub LowestByMinusOne : Type 0
LowestByMinusOne = (mul_div_of Div lowest minus_one ≡ lowest) × (mul_div_of Rem lowest minus_one ≡ 0)
