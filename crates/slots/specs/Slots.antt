-- Slots: records one after the other in a lent buffer, with no header. What the entries answer, and what they leave in each buffer.
use Rattle.std.specs.Prelude.{ℕ, ◌+◌, ◌*◌, ◌/◌, ◌%◌, Bool, ◌&&◌, List, ◌++◌, length, take, drop, eqb, ltb, Result, Ok, Err}
use Rattle.answers.specs.Answer.{Answer}
use Rattle.answers.specs.Checks.{unless, Check, passed}
use Rattle.answers.specs.Outcomes.{Outcome, outcome, decided}
use Rattle.answers.specs.declared.Refusal.{Refusal}
use Rattle.answers.specs.declared.Refusal.TheVariants as R
use Rattle.state.specs.declared.State.{State}
use Rattle.state.specs.States.{state_checked}
use Rattle.records.specs.Records.{record_of, state_of, record_checked}

-- a buffer of whole slots, and k one of them
abbrev pub slot_there : ℕ → List ℕ → Bool
slot_there k slots = eqb (length slots % 144) 0 && ltb k (length slots / 144)

-- bytes 144k to 144k + 143
abbrev pub slot_at : ℕ → List ℕ → List ℕ
slot_at k slots = take 144 (drop (144 * k) slots)

-- these bytes in slot k, and the other slots as they were
abbrev pub slot_set : ℕ → List ℕ → List ℕ → List ℕ
slot_set k bytes slots = take (144 * k) slots ++ bytes ++ drop (144 * k + 144) slots

-- ---- writing a state to slot k: refusals 4, 5, 14 and 15

abbrev pub write_checked : ℕ → State → List ℕ → Check
write_checked k s slots = unless (slot_there k slots) R.Slot (state_checked s)

abbrev pub write_entry : ℕ → State → List ℕ → Outcome Check (List ℕ)
write_entry k s slots = decided (write_checked k s slots) (outcome passed (slot_set k (record_of s) slots)) Err slots

-- ---- reading slot k: refusals 4, 5, 14 and 15; nothing is lent to be changed

abbrev pub read_checked : ℕ → List ℕ → Check
read_checked k slots = unless (slot_there k slots) R.Slot (record_checked (slot_at k slots))

abbrev pub read_entry : ℕ → List ℕ → Outcome (Result State Refusal) (Unit {0})
read_entry k slots = decided (read_checked k slots) (outcome (Ok (state_of (slot_at k slots))) tt) Err tt
