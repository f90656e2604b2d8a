-- The C interface, steps and runs: what each call returns, and what it leaves in its places and in the buffers. The word that refusal 3 tells has a place of its own.
use Rattle.std.specs.Prelude.{ℕ, Result}
use Rattle.answers.specs.Outcomes.{Outcome, outcome}
use Rattle.answers.specs.Replies.{told, placed, called_telling}
use Rattle.resume.specs.Resuming.{Bench, resume_entry}
use Rattle.answers.specs.Answer.{of_result}
use Rattle.answers.specs.Checks.{word_told}
use Rattle.answers.specs.declared.Refusal.{Refusal}

-- what a run's answer leaves in the places for the number retired and for the word
abbrev pub answered : Result ℕ Refusal → ℕ → ℕ → Outcome ℕ (ℕ × ℕ)
answered done retired word = outcome (told (of_result done) retired).answer ((told (of_result done) retired).lent, placed (word_told done) word)

-- a run carried on from its slot: the number retired and the word in their places, then board and slots
abbrev pub resume_call : ℕ → ℕ → Bench → ℕ → ℕ → Outcome ℕ ((ℕ × ℕ) × Bench)
resume_call budget k h retired word = called_telling of_result word_told retired word (resume_entry budget k h)

-- a state is lent as its record of 144 bytes, a buffer of one slot: a run of it is a run of that slot
abbrev pub run_call : ℕ → Bench → ℕ → ℕ → Outcome ℕ ((ℕ × ℕ) × Bench)
run_call budget h retired word = resume_call budget 0 h retired word

-- a step of it is a run of budget 1, of which the number retired is not told
abbrev pub step_call : Bench → ℕ → Outcome ℕ (ℕ × Bench)
step_call h word = outcome (run_call 1 h 0 word).answer ((run_call 1 h 0 word).lent.0.1, (run_call 1 h 0 word).lent.1)
