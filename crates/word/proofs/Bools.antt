-- Tests that hold together, what a test picks, and a test as a number.
use mathlib.Core.Path.{◌≡◌, refl}
use mathlib.Core.Bool.{Bool, true, false, cond, ◌&&◌, ◌||◌}
use mathlib.Core.Logic.{◌↔◌, ◌⊎◌, inl, inr, ⊎_elim}
use Prim.Native.Nat.{ℕ, ◌<◌, ◌≤◌}
use borrow.Author.Tests.{ltb-true, ltb-false}
use lib.Dec.{T, ltb}
use native.Mathlib.Omega.{arith}
use Rattle.word.specs.Bits.{flag}

pub and_left : (a b : Bool) → T (a && b) → T a
and_left true b t = tt
and_left false b t = t

pub and_right : (a b : Bool) → T (a && b) → T b
and_right true b t = t
and_right false b t = absurd t

pub and_both : (a b : Bool) → T a → T b → T (a && b)
and_both true b s t = t
and_both false b s t = absurd s

pub is_true : (a : Bool) → T a → a ≡ true
is_true true t = refl
is_true false t = absurd t

pub holds : (a : Bool) → a ≡ true → T a
holds a e = rw e tt

pub is_false : (a : Bool) → (T a → ⊥) → a ≡ false
is_false true f = absurd (f tt)
is_false false f = refl

-- the second of two tests that both hold
pub second : (a b : Bool) → (a && b) ≡ true → b ≡ true
second true b e = e
second false b e = cc

-- two tests fail where the one or the other does
pub and_fails : (a b : Bool) {P Q : Type 0} → (a ≡ false) ↔ P → (b ≡ false) ↔ Q → ((a && b) ≡ false) ↔ (P ⊎ Q)
and_fails true b p q = (λ e. inr (q.0 e), λ s. ⊎_elim (λ h. let z = p.1 h in cc) (λ h. q.1 h) s)
and_fails false b p q = (λ e. inl (p.0 refl), λ s. refl)

-- one of two tests holds unless both fail
pub or_fails : (a b : Bool) → (a || b) ≡ false → (a ≡ false) × (b ≡ false)
or_fails true b e = (cc, cc)
or_fails false b e = (refl, e)

pub flag_le : (t : Bool) → flag t ≤ 1
flag_le true = omega arith
flag_le false = omega arith

-- what holds of both cases holds of the one that a test picks
pub either : {A : Type 0} (P : A → Type 0) (b : Bool) (s t : A) → P s → P t → P (cond b s t)
either P true s t h k = h
either P false s t h k = k

-- each number is below another or not
pub below : (n k : ℕ) → (n < k) ⊎ (k ≤ n)
below n k = go (ltb n k) refl
  where
    go : (t : Bool) → ltb n k ≡ t → (n < k) ⊎ (k ≤ n)
    go true e = inl (ltb-true n k e)
    go false e = inr (ltb-false n k e)
