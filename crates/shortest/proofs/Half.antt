-- Every halfword that is tried has 16 bits.
use Prim.Native.Nat.{ℕ, ◌+◌, ◌%◌, ◌^◌, ◌<◌}
use native.Mathlib.Omega.{arith}
use lib.Dec.{eqb, ltb}
use Rattle.word.proofs.Bools.{either}
use Rattle.word.proofs.Rows.{◌and◌, found}
use Rattle.shortest.specs.Trial.{tries, try_none, try_for}

abbrev Half : ℕ → Type 0
Half h = h < 2 ^ 16

-- every format has 16 bits, whatever its fields hold
abbrev Small : (ℕ → ℕ → ℕ → ℕ → ℕ) → Type 0
Small f = (d s t v : ℕ) → f d s t v < 2 ^ 16

pub half : (o d s t v : ℕ) → try_for o d s t v < 2 ^ 16
unfolding try_for
half o d s t v =
    found Small try_none (λ d s t v. omega arith) tries o (λ f. f)
    ((λ e d s t v. omega arith)
    and (λ e d s t v. omega arith)
    and (λ e d s t v. omega arith)
    and (λ e d s t v. omega arith)
    and (λ e d s t v. omega arith)
    and (λ e d s t v. either Half (eqb s 2) _ _ (omega arith) (omega arith))
    and (λ e d s t v. either Half (eqb s 2) _ _ (omega arith) (omega arith))
    and (λ e d s t v. either Half (eqb d s) _ _ (either Half (ltb ((v + 32) % 2 ^ 32) 64) _ _ (omega arith) (omega arith)) (either Half (eqb s 0) _ _ (omega arith) (omega arith)))
    and (λ e d s t v. omega arith)
    and (λ e d s t v. omega arith)
    and (λ e d s t v. omega arith)
    and (λ e d s t v. omega arith)
    and (λ e d s t v. omega arith)
    and (λ e d s t v. omega arith)
    and (λ e d s t v. omega arith)
    and (λ e d s t v. omega arith)
    and (λ e d s t v. omega arith)
    and (λ e d s t v. omega arith)
    and tt)
    d s t v
