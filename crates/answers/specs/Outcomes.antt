-- One shape for every entry: tests of its input, what it gives where they pass, and what a refusal answers where one fails.
use Rattle.answers.specs.declared.Refusal.{Refusal}
use Rattle.answers.specs.Checks.{Check}
use Rattle.std.specs.Prelude.{Err, Ok}

-- what a call answers, with what was lent to it as the call leaves it
pub record Outcome (A B : Type 0) : Type 0 where
  pub answer : A
  pub lent : B

abbrev pub outcome : {A B : Type 0} → A → B → Outcome A B
outcome a b = record { answer = a; lent = b }

-- where every test passes, the outcome that is given; else the refusal's answer, and what was lent as it was
unfoldable pub decided : {A B : Type 0} → Check → Outcome A B → (Refusal → A) → B → Outcome A B
decided (Ok u) o refusal before = o
decided (Err r) o refusal before = outcome (refusal r) before
