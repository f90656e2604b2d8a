-- A number as digits of given widths, from the high bits to the low: a format of the manual, or an immediate put together.
-- A number has the digits exactly where its low bits are their sum, whatever the widths.
use mathlib.Core.Path.{◌≡◌, refl, sym, ap, ◌∙◌, subst}
use Prim.Native.Nat.{ℕ, ◌+◌, ◌*◌, ◌/◌, ◌%◌, ◌^◌, ◌<◌}
use native.Mathlib.Nat.{mod-eq_of_lt, add_assoc, add-zero, zero-mul, zero-add}
use native.Mathlib.Omega.{arith}
use lib.Arith.{digits_lt}
use Rattle.word.proofs.Scatter.{low_lt}
use lib.Pow.{pow_pos, pow-add, mod-pow-add, high, low}

-- `put k n ds`: the k low bits of n, above the digits ds. `last k n`: the k low bits of n, at bit 0. `clear k`: k bits that are 0, at bit 0
pub data Digits : Type 0 where
  last : ℕ → ℕ → Digits
  clear : ℕ → Digits
  put : ℕ → ℕ → Digits → Digits

abbrev pub width : Digits → ℕ
width (last k n) = k
width (clear k) = k
width (put k n ds) = k + width ds

-- a and the digits, added up from the left
abbrev pub sum : ℕ → Digits → ℕ
sum a (last k n) = a + n % 2 ^ k
sum a (clear k) = a
sum a (put k n ds) = sum (a + n % 2 ^ k * 2 ^ width ds) ds

abbrev pub value : Digits → ℕ
value (last k n) = n % 2 ^ k
value (clear k) = 0
value (put k n ds) = sum (n % 2 ^ k * 2 ^ width ds) ds

-- w has the digits at their places
abbrev pub Has : ℕ → Digits → Type 0
Has w (last k n) = w % 2 ^ k ≡ n % 2 ^ k
Has w (clear k) = w % 2 ^ k ≡ 0
Has w (put k n ds) = (w / 2 ^ width ds % 2 ^ k ≡ n % 2 ^ k) × Has w ds

sum_is : (a : ℕ) (ds : Digits) → sum a ds ≡ a + value ds
sum_is a (last k n) = refl
sum_is a (clear k) = sym (add-zero a)
sum_is a (put k n ds) =
    let x : ℕ = n % 2 ^ k * 2 ^ width ds in
    sum_is (a + x) ds ∙ add_assoc a x (value ds) ∙ ap (λ (y : ℕ). a + y) (sym (sum_is x ds))

pub value_lt : (ds : Digits) → value ds < 2 ^ width ds
value_lt (last k n) = low_lt n k
value_lt (clear k) = pow_pos k
value_lt (put k n ds) = rw (sum_is (n % 2 ^ k * 2 ^ width ds) ds, pow-add 2 k (width ds)) (digits_lt (low_lt n k) (value_lt ds))

-- the digits' sum, with anything above it, has the digits
pub had : (q : ℕ) (ds : Digits) → Has (q * 2 ^ width ds + value ds) ds
had q (last k n) = low q k (low_lt n k)
had q (clear k) = low q k (pow_pos k)
had q (put k n ds) = subst (λ (w : ℕ). Has w (put k n ds)) (sym regroup) (rw (high p b (value_lt ds)) (low q k (low_lt n k)), had p ds)
  where
    b : ℕ
    b = width ds

    p : ℕ
    p = q * 2 ^ k + n % 2 ^ k

    regroup : q * 2 ^ (k + b) + value (put k n ds) ≡ p * 2 ^ b + value ds
    regroup = rw (sum_is (n % 2 ^ k * 2 ^ b) ds, pow-add 2 k b) (omega arith)

pub value_has : (ds : Digits) → Has (value ds) ds
value_has ds = subst (λ (w : ℕ). Has w ds) (rw (zero-mul, zero-add)) (had 0 ds)

-- what has the digits is their sum, in its low bits
pub has_value : (w : ℕ) (ds : Digits) → Has w ds → value ds ≡ w % 2 ^ width ds
has_value w (last k n) h = sym h
has_value w (clear k) h = sym h
has_value w (put k n ds) h = rw (sum_is (n % 2 ^ k * 2 ^ width ds) ds, has_value w ds h.1, ← h.0) (sym (mod-pow-add w k (width ds)))

-- .. and nothing else, where it has no more bits
pub whole : (w : ℕ) (ds : Digits) → w < 2 ^ width ds → Has w ds → value ds ≡ w
whole w ds l h = has_value w ds h ∙ mod-eq_of_lt l
