-- A call whose number and length `answer` made of what a text's entry answered.
use Prim.Native.Nat.{ℕ}
use mathlib.Core.Path.{◌≡◌, ap, ◌∙◌}
use mathlib.Core.List.{List}
use Rattle.answers.specs.Outcomes.{Outcome, outcome}
use Rattle.answers.specs.Replies.{told, called}
use Rattle.answers.specs.Answer.{of_result}
use Rattle.answers.specs.declared.Refusal.{Refusal}
use Rattle.std.specs.Prelude.{Result}

pub text-called : (w : Result ℕ Refusal) (before : ℕ) {n length : ℕ} {room : List ℕ} {o : Outcome (Result ℕ Refusal) (List ℕ)} → outcome n length ≡ told (of_result w) before → outcome w room ≡ o
    → outcome n (length, room) ≡ called of_result before o
text-called w before {room = room} a e = ap (λ (p : Outcome ℕ ℕ). outcome p.answer (p.lent, room)) a ∙ ap (called of_result before) e
