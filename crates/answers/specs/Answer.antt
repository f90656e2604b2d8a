-- An answer in the paper's terms: the values that were asked for, or a refusal's number. What a refusal tells besides is read apart: the word of 3, line and byte of 10 to 12.
use Rattle.std.specs.Prelude.{ℕ, Result, Ok, Err}
use Rattle.answers.specs.declared.Refusal.{Refusal}
use Rattle.answers.specs.Refusals.{number_of}

pub data Answer (A : Type 0) : Type 0 where
  given : A → Answer A
  refused_with : ℕ → Answer A

abbrev pub refused : {A : Type 0} → Refusal → Answer A
refused r = refused_with (number_of r)

-- of a function that answers values or a refusal
abbrev pub of_result : {A : Type 0} → Result A Refusal → Answer A
of_result (Ok a) = given a
of_result (Err r) = refused r
