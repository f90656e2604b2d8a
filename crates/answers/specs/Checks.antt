-- What an entry asks of its input before anything else: tests in rising order of the refusal numbers, and the first that fails decides.
use Rattle.std.specs.Prelude.{Bool, cond, ℕ, Option, None, Result, Ok, Err}
use Rattle.answers.specs.declared.Refusal.{Refusal}
use Rattle.answers.specs.Refusals.{word_of}

-- what the tests come to: all pass, or a refusal
abbrev pub Check : Type 0
Check = Result (Unit {0}) Refusal

abbrev pub passed : Check
passed = Ok tt

-- refused with r unless the test holds; then the tests that follow decide
abbrev pub unless : Bool → Refusal → Check → Check
unless test r rest = cond test rest (Err r)

-- the word that is told, where it is refused with 3
abbrev pub word_told : {A : Type 0} → Result A Refusal → Option ℕ
word_told (Ok a) = None
word_told (Err r) = word_of r
