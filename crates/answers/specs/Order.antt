-- The refusals of an entry, in their order, each exactly if: n is the number of the first that holds.
use Rattle.std.specs.Prelude.{◌≡◌, ◌⊎◌, ℕ}

-- k where Holds, else what follows
abbrev pub refusal : ℕ → Type 0 → (ℕ → Type 0) → ℕ → Type 0
refusal k Holds later n = (Holds × (n ≡ k)) ⊎ ((Holds → ⊥) × later n)

abbrev pub no_refusal : ℕ → Type 0
no_refusal n = ⊥
