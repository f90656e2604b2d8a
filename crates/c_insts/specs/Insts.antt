-- The C interface, instructions to bits: what each call returns, and what it leaves in its place.
use Rattle.std.specs.Prelude.{ℕ, List}
use Rattle.answers.specs.Answer.{Answer, given, refused_with}
use Rattle.answers.specs.Outcomes.{Outcome}
use Rattle.answers.specs.Replies.{told}
use Rattle.isa.specs.declared.Inst.{Inst}
use Rattle.isa.specs.Encoding.{encoded}
use Rattle.isa.specs.Shortening.{shortened}
use Rattle.isa.specs.Answers.{of_encoded, of_shortened}
use Rattle.calls.specs.Calls.{of_numbers}

-- what is asked of the instruction, if there is one
abbrev pub if_built : {A : Type 0} → Answer Inst → (Inst → Answer A) → Answer A
if_built (given i) asked = asked i
if_built (refused_with n) asked = refused_with n

abbrev pub encode_call : List ℕ → ℕ → Outcome ℕ ℕ
encode_call inst bits = told (if_built (of_numbers inst) (λ i. of_encoded (encoded i))) bits

abbrev pub shorten_call : List ℕ → ℕ → Outcome ℕ ℕ
shorten_call inst bits = told (if_built (of_numbers inst) (λ i. of_shortened (shortened i))) bits
