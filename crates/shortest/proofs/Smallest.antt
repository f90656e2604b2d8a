-- The smallest number below n that passes a test: what the definition gives.
use mathlib.Core.Path.{◌≡◌, refl}
use mathlib.Core.Bool.{Bool, true, false}
use Prim.Native.Nat.{ℕ, zero, suc, ◌<◌}
use native.Mathlib.Omega.{arith}
use native.Mathlib.Decide.{dec_lt}
use Rattle.isa.specs.Shortening.{smallest}
use Rattle.isa.specs.declared.Unshortened.TheVariants as U
use Rattle.std.specs.Prelude.{Err, Ok}

pub no_smallest : (p : ℕ → Bool) (n : ℕ) → ((k : ℕ) → k < n → p k ≡ false) → smallest p n ≡ Err U.NoShortForm
unfolding smallest
no_smallest p zero f = refl
no_smallest p (suc n) f = rw (no_smallest p n (λ k l. f k (omega arith)), f n (omega arith))

pub the_smallest : (p : ℕ → Bool) (n h : ℕ) → h < n → p h ≡ true → ((k : ℕ) → k < h → p k ≡ false) → smallest p n ≡ Ok h
unfolding smallest
the_smallest p zero h l t f = absurd (omega arith)
the_smallest p (suc n) h l t f =
    elim (dec_lt h n) [
      | yes m ↦ rw (the_smallest p n h m t f)
      | no m ↦
          let e : n ≡ h = omega arith in
          rw (e, no_smallest p h f, t)
    ]
