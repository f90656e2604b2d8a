-- The bitwise and of two masks is not zero exactly if there is a word in both.
use mathlib.Core.Path.{◌≡◌, refl}
use mathlib.Core.Bool.{Bool, true, false}
use mathlib.Core.Logic.{◌↔◌}
use Prim.Native.Nat.{ℕ, zero, suc, ◌+◌, ◌/◌, ◌%◌, ◌^◌, ◌<◌, min}
use native.Mathlib.Omega.{arith}
use native.Mathlib.Nat.{pow-suc, div-one, div-le_self, zero-min, min-zero}
use lib.Bits.{bit_and, and_step, and_zero_l, and_shr, and_mod}
use lib.Pow.{shr-shr}
use lib.Dec.{eqb}
use borrow.Author.Tests.{eqb-true, eqb-false, ne_eqb}
use Rattle.fuses.specs.Row.{owns}

-- a word in both
abbrev Common : ℕ → ℕ → Type 0
Common a b = (k : ℕ) × (owns a k ≡ true) × (owns b k ≡ true)

common_and : (a b : ℕ) → Common a b → eqb (bit_and a b) 0 ≡ false
common_and a b (k, e, f) = ne_eqb (bit_and a b) 0 there
  where
    both : bit_and a b / 2 ^ k % 2 ^ 1 ≡ bit_and (a / 2 ^ k % 2 ^ 1) (b / 2 ^ k % 2 ^ 1)
    both = rw (and_shr a b k, and_mod (a / 2 ^ k) (b / 2 ^ k) 1)

    there : bit_and a b ≡ 0 → ⊥
    there z =
        let x : a / 2 ^ k % 2 ≡ 1 = eqb-true _ _ e in
        let y : b / 2 ^ k % 2 ≡ 1 = eqb-true _ _ f in
        omega (arith, div-le_self 0 (2 ^ k), rw (z, x, y) at both)

abbrev Follows : ℕ → ℕ → Type 0
Follows a b = (bit_and a b ≡ 0 → ⊥) → Common a b

-- the lowest bits, and those above them
and_common : (n a b : ℕ) → a < 2 ^ n → Follows a b
and_common zero a b l h = let z : a ≡ 0 = omega arith in absurd (h (rw z (and_zero_l b)))
and_common (suc n) a b l h = low (λ k. and_common n (a / 2) (b / 2) (omega (arith, pow-suc 2 n)) k) (eqb (a % 2) 1) (eqb (b % 2) 1) refl refl
  where
    up : (c k : ℕ) → c / 2 / 2 ^ k ≡ c / 2 ^ (1 + k)
    up c k = shr-shr c 1 k

    raised : Common (a / 2) (b / 2) → Common a b
    raised (k, e, f) = (1 + k, rw (up a k) at e, rw (up b k) at f)

    above : Follows (a / 2) (b / 2) → min (a % 2) (b % 2) ≡ 0 → Common a b
    above f m = raised (f (λ z. h (rw (and_step a b, z, m))))

    low : Follows (a / 2) (b / 2) → (c d : Bool) → eqb (a % 2) 1 ≡ c → eqb (b % 2) 1 ≡ d → Common a b
    low g true true e f = (0, rw (div-one a) e, rw (div-one b) f)
    low g true false e f = let z : b % 2 ≡ 0 = omega (arith, eqb-false (b % 2) 1 f) in above g (rw (z, min-zero (a % 2)))
    low g false d e f = let z : a % 2 ≡ 0 = omega (arith, eqb-false (a % 2) 1 e) in above g (rw (z, zero-min (b % 2)))

below_power : (n : ℕ) → n < 2 ^ n
below_power zero = omega arith
below_power (suc n) = omega (arith, pow-suc 2 n, below_power n)

pub shares : (a b : ℕ) → (eqb (bit_and a b) 0 ≡ false) ↔ Common a b
shares a b = (λ e. and_common a a b (below_power a) (eqb-false _ _ e), common_and a b)
