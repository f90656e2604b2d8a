-- Of the numbers, by the laws of answers; and no refusal's is 0, which tells a call's refusals from its values.
use mathlib.Core.Path.{◌≡◌, sym, ◌∙◌}
use mathlib.Core.Logic.{inl, inr}
use native.Mathlib.Omega.{arith}
use Rattle.answers.specs.Refusals.{number_of}
use Rattle.answers.proofs.Numbers.{refusal-numbered, number_of_one, stop-numbered, stop_of_one}
use Rattle.answers.proofs.Order.{apart}
use Rattle.promises_codes.specs.Instructions.{RefusalNumbers, StopNumbers, Replies}

pub refusal_numbers : RefusalNumbers
refusal_numbers = (λ r. ((refusal-numbered r).1, (refusal-numbered r).2), λ r s e w. number_of_one e w)

pub stop_numbers : StopNumbers
stop_numbers = (λ s. ((stop-numbered s).1, (stop-numbered s).2), λ s t e. stop_of_one e)

pub replies : Replies
replies A a place (inl g) = (
  (λ e. g, λ h. rw h.1),
  λ v e. rw e,
  λ r. absurd (apart (sym g.1 ∙ r.1)),
)
replies A a place (inr r) = (
  (λ e. let z : number_of r.0 ≡ 0 = rw r.1 at e in absurd (omega (arith, (refusal-numbered r.0).1)), λ g. absurd (apart (sym g.1 ∙ r.1))),
  λ v e. rw e,
  λ s. rw s.1,
)
