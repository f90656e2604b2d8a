-- The formats and the immediates of the manual as digits, and the digits of each instruction's word.
use mathlib.Core.Path.{◌≡◌, refl}
use Prim.Native.Nat.{ℕ, ◌/◌, ◌^◌}
use Rattle.isa.specs.Encoding.{word_of, cond_code, load_code, store_code, imm_code, shift_code, shift_code7, arith_code, arith_code7, mul_div_code}
use Rattle.isa.specs.declared.Inst.{Inst}
use Rattle.isa.specs.declared.Inst.TheVariants.{Lui, Auipc, Jal, Jalr, Branch, Load, Store, Imm, Shift, Arith, Fence, Ecall, Ebreak, MulDiv}
use Rattle.roundtrip.proofs.Digits.{Digits, last, clear, put, width, value}

-- ---- the formats

abbrev pub format_r : ℕ → ℕ → ℕ → ℕ → ℕ → ℕ → Digits
format_r f7 t s f3 d op = put 7 f7 (put 5 t (put 5 s (put 3 f3 (put 5 d (last 7 op)))))

abbrev pub format_i : ℕ → ℕ → ℕ → ℕ → ℕ → Digits
format_i imm s f3 d op = put 12 imm (put 5 s (put 3 f3 (put 5 d (last 7 op))))

abbrev pub format_s : ℕ → ℕ → ℕ → ℕ → ℕ → Digits
format_s imm t s f3 op = put 7 (imm / 2 ^ 5) (put 5 t (put 5 s (put 3 f3 (put 5 imm (last 7 op)))))

abbrev pub format_b : ℕ → ℕ → ℕ → ℕ → ℕ → Digits
format_b imm t s f3 op =
    put 1 (imm / 2 ^ 12) (put 6 (imm / 2 ^ 5) (put 5 t (put 5 s (put 3 f3 (put 4 (imm / 2 ^ 1) (put 1 (imm / 2 ^ 11) (last 7 op)))))))

abbrev pub format_u : ℕ → ℕ → ℕ → Digits
format_u field d op = put 20 field (put 5 d (last 7 op))

abbrev pub format_j : ℕ → ℕ → ℕ → Digits
format_j imm d op = put 1 (imm / 2 ^ 20) (put 10 (imm / 2 ^ 1) (put 1 (imm / 2 ^ 11) (put 8 (imm / 2 ^ 12) (put 5 d (last 7 op)))))

-- ---- the immediates in a word. The lowest bit of a branch's and a jump's is 0

abbrev pub digits_i : ℕ → Digits
digits_i w = last 12 (w / 2 ^ 20)

abbrev pub digits_s : ℕ → Digits
digits_s w = put 7 (w / 2 ^ 25) (last 5 (w / 2 ^ 7))

abbrev pub digits_b : ℕ → Digits
digits_b w = put 1 (w / 2 ^ 31) (put 1 (w / 2 ^ 7) (put 6 (w / 2 ^ 25) (put 4 (w / 2 ^ 8) (clear 1))))

abbrev pub digits_j : ℕ → Digits
digits_j w = put 1 (w / 2 ^ 31) (put 8 (w / 2 ^ 12) (put 1 (w / 2 ^ 20) (put 10 (w / 2 ^ 21) (clear 1))))

-- ---- the words

abbrev pub digits_of : Inst → Digits
digits_of (Lui rd field) = format_u field rd.number 0b0110111
digits_of (Auipc rd field) = format_u field rd.number 0b0010111
digits_of (Jal rd imm) = format_j imm rd.number 0b1101111
digits_of (Jalr rd rs1 imm) = format_i imm rs1.number 0b000 rd.number 0b1100111
digits_of (Branch o rs1 rs2 imm) = format_b imm rs2.number rs1.number (cond_code o) 0b1100011
digits_of (Load o rd rs1 imm) = format_i imm rs1.number (load_code o) rd.number 0b0000011
digits_of (Store o rs1 rs2 imm) = format_s imm rs2.number rs1.number (store_code o) 0b0100011
digits_of (Imm o rd rs1 imm) = format_i imm rs1.number (imm_code o) rd.number 0b0010011
digits_of (Shift o rd rs1 amount) = format_r (shift_code7 o) amount rs1.number (shift_code o) rd.number 0b0010011
digits_of (Arith o rd rs1 rs2) = format_r (arith_code7 o) rs2.number rs1.number (arith_code o) rd.number 0b0110011
digits_of (Fence rd rs1 field) = format_i field rs1.number 0b000 rd.number 0b0001111
digits_of Ecall = format_i 0 0 0b000 0 0b1110011
digits_of Ebreak = format_i 1 0 0b000 0 0b1110011
digits_of (MulDiv o rd rs1 rs2) = format_r 0b0000001 rs2.number rs1.number (mul_div_code o) rd.number 0b0110011

-- the word is the sum of its digits, which have 32 bits
pub word-is : (i : Inst) → (word_of i ≡ value (digits_of i)) × (width (digits_of i) ≡ 32)
unfolding word_of
word-is (Lui rd field) = (refl, refl)
word-is (Auipc rd field) = (refl, refl)
word-is (Jal rd imm) = (refl, refl)
word-is (Jalr rd rs1 imm) = (refl, refl)
word-is (Branch o rs1 rs2 imm) = (refl, refl)
word-is (Load o rd rs1 imm) = (refl, refl)
word-is (Store o rs1 rs2 imm) = (refl, refl)
word-is (Imm o rd rs1 imm) = (refl, refl)
word-is (Shift o rd rs1 amount) = (refl, refl)
word-is (Arith o rd rs1 rs2) = (refl, refl)
word-is (Fence rd rs1 field) = (refl, refl)
word-is Ecall = (refl, refl)
word-is Ebreak = (refl, refl)
word-is (MulDiv o rd rs1 rs2) = (refl, refl)
