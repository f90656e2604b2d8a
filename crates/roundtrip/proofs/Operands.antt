-- An operand in a word: what its digit says of it where it is in range, and that what a digit gives is in range.
use mathlib.Core.Path.{◌≡◌, refl, sym, ap, ◌∙◌}
use mathlib.Core.Bool.{◌&&◌}
use Prim.Native.Nat.{ℕ, ◌-◌, ◌*◌, ◌/◌, ◌%◌, ◌^◌}
use native.Mathlib.Nat.{mod-lt, mod-mod, mod-eq_of_lt}
use lib.Dec.{T, ltb, leb, ltb→lt, lt→ltb, leb→le, eqb→eq, eqb_refl}
use lib.Pow.{pow_pos}
use Rattle.word.specs.Bits.{sext}
use Rattle.word.proofs.Signs.{sext_above}
use Rattle.word.proofs.Bools.{and_left, and_right, and_both}
use Rattle.isa.specs.Encoding.{signed_ok, even_ok}
use Rattle.roundtrip.proofs.Digits.{Digits, width, value, Has, had, has_value}

-- ---- a field of k bits

-- a field that holds n holds the k low bits of n
pub kept : (x k n : ℕ) → x % 2 ^ k ≡ n → x % 2 ^ k ≡ n % 2 ^ k
kept x k n e = sym (mod-mod x (2 ^ k)) ∙ ap (λ (y : ℕ). y % 2 ^ k) e

pub again : (x k : ℕ) → x % 2 ^ k ≡ x % 2 ^ k % 2 ^ k
again x k = kept x k (x % 2 ^ k) refl

-- what a field holds of an n in range is n
pub field_is : (x k n : ℕ) → T (ltb n (2 ^ k)) → x ≡ n % 2 ^ k → x ≡ n
field_is x k n t e = e ∙ mod-eq_of_lt (ltb→lt n (2 ^ k) t)

-- what a field holds is in range
pub field_ok : (x k : ℕ) → T (ltb (x % 2 ^ k) (2 ^ k))
field_ok x k = lt→ltb (x % 2 ^ k) (2 ^ k) (mod-lt x (pow_pos k))

-- ---- a signed immediate, put together of digits

-- an immediate in range, from its digits
pub imm_is : (imm : ℕ) (ds : Digits) → T (signed_ok (width ds) imm) → Has imm ds → sext (width ds) (value ds) ≡ imm
imm_is imm ds t h = ap (sext (width ds)) (has_value imm ds h) ∙ eqb→eq (sext (width ds) (imm % 2 ^ width ds)) imm t

-- the immediate that the digits make has the digits, and is in range
pub imm_has : (ds : Digits) → T (leb (width ds) 32) → Has (sext (width ds) (value ds)) ds
imm_has ds t = rw (sext_above (width ds) (value ds) (leb→le (width ds) 32 t)) (had (value ds / 2 ^ (width ds - 1) * (2 ^ (32 - width ds) - 1)) ds)

pub imm_ok : (ds : Digits) → T (leb (width ds) 32) → T (signed_ok (width ds) (sext (width ds) (value ds)))
imm_ok ds t = rw (← has_value (sext (width ds) (value ds)) ds (imm_has ds t)) (eqb_refl (sext (width ds) (value ds)))

-- the same, where the immediate must be even
pub even_is : (imm : ℕ) (ds : Digits) → T (signed_ok (width ds) imm && even_ok imm) → (imm % 2 ≡ 0 → Has imm ds) → sext (width ds) (value ds) ≡ imm
even_is imm ds t f =
    imm_is imm ds (and_left (signed_ok (width ds) imm) (even_ok imm) t) (f (eqb→eq (imm % 2) 0 (and_right (signed_ok (width ds) imm) (even_ok imm) t)))

pub even_ok_lem : (ds : Digits) → T (leb (width ds) 32) → sext (width ds) (value ds) % 2 ≡ 0
    → T (signed_ok (width ds) (sext (width ds) (value ds)) && even_ok (sext (width ds) (value ds)))
even_ok_lem ds t e = and_both (signed_ok (width ds) (sext (width ds) (value ds))) (even_ok (sext (width ds) (value ds))) (imm_ok ds t) (rw e tt)
