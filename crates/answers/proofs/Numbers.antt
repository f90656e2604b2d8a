-- A number that leads back to its refusal or stop, by its place in a list, belongs to no other.
use mathlib.Core.Path.{◌≡◌, refl, sym, ap, ◌∙◌}
use mathlib.Core.List.{[], ◌∷◌}
use mathlib.Core.Logic.{◌⊎◌, inl, inr}
use Prim.Native.Nat.{ℕ, ◌-◌, ◌≤◌}
use native.Mathlib.Omega.{arith}
use lib.Dec.{lit≤}
use lib.ListN.{get_or}
use Rattle.answers.specs.declared.Refusal.{Refusal}
use Rattle.answers.specs.declared.Refusal.TheVariants as R
use Rattle.answers.specs.declared.Stop.{Stop}
use Rattle.answers.specs.declared.Stop.TheVariants as S
use Rattle.answers.specs.Refusals.{number_of, word_of}
use Rattle.answers.specs.Replies.{placed}
use Rattle.answers.specs.Stops.{stop_number, last_stop}
use Rattle.std.specs.Prelude.{None, Option}

-- its number leads back to it, and lies from least to most
abbrev Numbered : {A : Type 0} → (A → ℕ) → (ℕ → A) → ℕ → ℕ → A → Type 0
Numbered number back least most a = (back (number a) ≡ a) × (least ≤ number a) × (number a ≤ most)

one_to_one : {A : Type 0} (number : A → ℕ) (back : ℕ → A) → ((a : A) → back (number a) ≡ a) → {a b : A} → number a ≡ number b → a ≡ b
one_to_one number back f {a} {b} e = sym (f a) ∙ ap back e ∙ f b

-- ---- refusals, from 1

abbrev refusal_of : Option ℕ → ℕ → Refusal
refusal_of word n =
    get_or
    (R.MemoryTooLong ∷ R.RowLength ∷ R.RowRecord (placed word 0) ∷ R.Slot ∷ R.OddPc ∷ R.Room ∷ R.NoInstruction ∷ R.Field ∷ R.NoShortForm ∷ R.Unreadable
    ∷ R.NumberNotAllowed ∷ R.NoShortLine ∷ R.OutputRoom ∷ R.StopNumber ∷ R.RecordEnd ∷ R.MasksShare ∷ [])
    (n - 1) R.MemoryTooLong

pub refusal-numbered : (r : Refusal) → Numbered number_of (refusal_of (word_of r)) 1 16 r
refusal-numbered R.MemoryTooLong = (refl, lit≤ tt, lit≤ tt)
refusal-numbered R.RowLength = (refl, lit≤ tt, lit≤ tt)
refusal-numbered (R.RowRecord k) = (refl, lit≤ tt, lit≤ tt)
refusal-numbered R.Slot = (refl, lit≤ tt, lit≤ tt)
refusal-numbered R.OddPc = (refl, lit≤ tt, lit≤ tt)
refusal-numbered R.Room = (refl, lit≤ tt, lit≤ tt)
refusal-numbered R.NoInstruction = (refl, lit≤ tt, lit≤ tt)
refusal-numbered R.Field = (refl, lit≤ tt, lit≤ tt)
refusal-numbered R.NoShortForm = (refl, lit≤ tt, lit≤ tt)
refusal-numbered R.Unreadable = (refl, lit≤ tt, lit≤ tt)
refusal-numbered R.NumberNotAllowed = (refl, lit≤ tt, lit≤ tt)
refusal-numbered R.NoShortLine = (refl, lit≤ tt, lit≤ tt)
refusal-numbered R.OutputRoom = (refl, lit≤ tt, lit≤ tt)
refusal-numbered R.StopNumber = (refl, lit≤ tt, lit≤ tt)
refusal-numbered R.RecordEnd = (refl, lit≤ tt, lit≤ tt)
refusal-numbered R.MasksShare = (refl, lit≤ tt, lit≤ tt)

-- two refusals with one number, that tell one word, are one
pub number_of_one : {p q : Refusal} → number_of p ≡ number_of q → word_of p ≡ word_of q → p ≡ q
number_of_one {p} {q} e w = sym (refusal-numbered p).0 ∙ ap (refusal_of (word_of p)) e ∙ rw w (refusal-numbered q).0

-- 3 tells a word, and no other does
pub three_tells : (r : Refusal) → ((number_of r ≡ 3) × ((before : ℕ) → placed (word_of r) before ≡ placed (word_of r) 0)) ⊎ ((number_of r ≡ 3 → ⊥) × (word_of r ≡ None))
three_tells R.MemoryTooLong = inr (λ e. omega arith, refl)
three_tells R.RowLength = inr (λ e. omega arith, refl)
three_tells (R.RowRecord k) = inl (refl, λ before. refl)
three_tells R.Slot = inr (λ e. omega arith, refl)
three_tells R.OddPc = inr (λ e. omega arith, refl)
three_tells R.Room = inr (λ e. omega arith, refl)
three_tells R.NoInstruction = inr (λ e. omega arith, refl)
three_tells R.Field = inr (λ e. omega arith, refl)
three_tells R.NoShortForm = inr (λ e. omega arith, refl)
three_tells R.Unreadable = inr (λ e. omega arith, refl)
three_tells R.NumberNotAllowed = inr (λ e. omega arith, refl)
three_tells R.NoShortLine = inr (λ e. omega arith, refl)
three_tells R.OutputRoom = inr (λ e. omega arith, refl)
three_tells R.StopNumber = inr (λ e. omega arith, refl)
three_tells R.RecordEnd = inr (λ e. omega arith, refl)
three_tells R.MasksShare = inr (λ e. omega arith, refl)

-- ---- stops, from 1

abbrev stop_of : ℕ → Stop
stop_of n =
    get_or
    (S.Ecall
    ∷ S.Ebreak
    ∷ S.IllegalInstruction
    ∷ S.FetchOutside
    ∷ S.LoadMisaligned
    ∷ S.LoadOutside
    ∷ S.StoreMisaligned
    ∷ S.StoreOutside
    ∷ S.AlreadyBurnt
    ∷ S.CountFull
    ∷ S.NotOwned
    ∷ [])
    (n - 1) S.Ecall

pub stop-numbered : (s : Stop) → Numbered stop_number stop_of 1 last_stop s
stop-numbered S.Ecall = (refl, lit≤ tt, lit≤ tt)
stop-numbered S.Ebreak = (refl, lit≤ tt, lit≤ tt)
stop-numbered S.IllegalInstruction = (refl, lit≤ tt, lit≤ tt)
stop-numbered S.FetchOutside = (refl, lit≤ tt, lit≤ tt)
stop-numbered S.LoadMisaligned = (refl, lit≤ tt, lit≤ tt)
stop-numbered S.LoadOutside = (refl, lit≤ tt, lit≤ tt)
stop-numbered S.StoreMisaligned = (refl, lit≤ tt, lit≤ tt)
stop-numbered S.StoreOutside = (refl, lit≤ tt, lit≤ tt)
stop-numbered S.AlreadyBurnt = (refl, lit≤ tt, lit≤ tt)
stop-numbered S.CountFull = (refl, lit≤ tt, lit≤ tt)
stop-numbered S.NotOwned = (refl, lit≤ tt, lit≤ tt)

pub stop_of_one : {p q : Stop} → stop_number p ≡ stop_number q → p ≡ q
stop_of_one e = one_to_one stop_number stop_of (λ s. (stop-numbered s).0) e
