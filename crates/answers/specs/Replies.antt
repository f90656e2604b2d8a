-- The C interface: a call returns a number, and leaves values in the places that were lent to it.
use Rattle.std.specs.Prelude.{ℕ, None, Option, Some}
use Rattle.answers.specs.Answer.{Answer, given, refused_with}
use Rattle.answers.specs.Outcomes.{Outcome, outcome}

-- 0 and the values; or the refusal's number, and the place as it was
abbrev pub told : {A : Type 0} → Answer A → A → Outcome ℕ A
told (given a) before = outcome 0 a
told (refused_with n) before = outcome n before

-- an entry as a call: its number, the values in their place, and the buffers as it leaves them
abbrev pub called : {A B C : Type 0} → (A → Answer C) → C → Outcome A B → Outcome ℕ (C × B)
called read before o = outcome (told (read o.answer) before).answer ((told (read o.answer) before).lent, o.lent)

-- what a refusal tells besides its number; where nothing is told, the place as it was
abbrev pub placed : {A : Type 0} → Option A → A → A
placed None before = before
placed (Some a) before = a

-- a call whose refusals can tell something: that stands in a place of its own, beside the values
abbrev pub called_telling : {A B C D : Type 0} → (A → Answer C) → (A → Option D) → C → D → Outcome A B → Outcome ℕ ((C × D) × B)
called_telling read tells before place o = outcome (called read before o).answer (((called read before o).lent.0, placed (tells o.answer) place), o.lent)
