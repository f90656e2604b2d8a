-- The C interface, slots: what each call returns, and what it leaves in its place and in the buffer. A state is lent as its record of 144 bytes, a buffer of one slot.
use Rattle.std.specs.Prelude.{ℕ, List, Result, Ok, Err}
use Rattle.answers.specs.Answer.{Answer, given, refused, of_result}
use Rattle.answers.specs.Checks.{unless, Check, passed}
use Rattle.answers.specs.Outcomes.{Outcome, outcome, decided}
use Rattle.answers.specs.declared.Refusal.TheVariants as R
use Rattle.answers.specs.Replies.{called}
use Rattle.records.specs.Records.{record_of, state_of}
use Rattle.slots.specs.Slots.{slot_there, slot_at, slot_set, read_checked, read_entry}
use Rattle.answers.specs.declared.Refusal.{Refusal}
use Rattle.state.specs.declared.State.{State}

-- the state that the record says, into slot k: refusal 4, then those of the record
abbrev pub lent_checked : List ℕ → ℕ → List ℕ → Check
lent_checked state k slots = unless (slot_there k slots) R.Slot (read_checked 0 state)

abbrev pub lent_entry : List ℕ → ℕ → List ℕ → Outcome Check (List ℕ)
lent_entry state k slots = decided (lent_checked state k slots) (outcome passed (slot_set k (record_of (state_of (slot_at 0 state))) slots)) Err slots

-- there is no value to give, and the slots are left
abbrev pub write_call : List ℕ → ℕ → List ℕ → Outcome ℕ (Unit {0} × List ℕ)
write_call state k slots = called of_result tt (lent_entry state k slots)

-- what was read, as its record
abbrev pub of_record : Result State Refusal → Answer (List ℕ)
of_record (Ok s) = given (record_of s)
of_record (Err r) = refused r

-- the record in its place
abbrev pub read_call : ℕ → List ℕ → List ℕ → Outcome ℕ (List ℕ × Unit {0})
read_call k slots before = called of_record before (read_entry k slots)
