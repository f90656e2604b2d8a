-- Demand 3, first part: however a run's budget is cut, with the state written to a slot and read back at each cut, each time to any slot of any buffer, the end is that of the manual's steps under the whole budget.
-- Each statement is proved in proofs/Cuts.antt.
use Rattle.std.specs.Prelude.{◌≡◌, true, false, ◌⊎◌, List, [], ◌∷◌, ℕ, ◌+◌, ◌*◌, ◌%◌, ◌^◌, ◌≤◌, length, take, drop, Ok}
use Rattle.answers.specs.Answer.{Answer, given, refused_with, of_result}
use Rattle.answers.specs.Outcomes.{outcome}
use Rattle.word.specs.Bounds.{AllBelow}
use Rattle.octets.specs.Bytes.{load}
use Rattle.state.specs.declared.State.{State}
use Rattle.state.specs.Sizes.{Fits}
use Rattle.state.specs.States.{state, state_in}
use Rattle.boards.specs.Boards.{BoardFits}
use Rattle.engine.specs.Steps.{World, masked, onward, Sized, paused, ran, retired}
use Rattle.machine.specs.Entries.{run_entry, of_ran, last_state}
use Rattle.records.specs.Records.{of_words, record_of, state_of}
use Rattle.slots.specs.Slots.{slot_there, slot_at, write_entry, read_entry}
use Rattle.resume.specs.Resuming.{Bench, shared_bench, bench_on, slot_world, resume_entry}
use Rattle.promises.specs.Refusals.{resume_rows, Malformed, RecordMalformed}
use Rattle.promises.specs.Steps.{Accepted}

-- ---- a run that is cut

-- a cut, and the piece after it: the state is written to this slot of this buffer, whatever else the buffer has, and read back; then it is run with this budget
pub record Piece : Type 0 where
  pub slot : ℕ
  pub slots : List ℕ
  pub budget : ℕ

-- the slot is accepted: the buffer has it
unfoldable pub SlotsThere : List Piece → Type 0
SlotsThere [] = Unit {0}
SlotsThere (p ∷ ps) = (slot_there p.slot p.slots ≡ true) × SlotsThere ps

-- what a run leaves: its last state, and the board
abbrev pub left_by : ℕ → World → World
left_by b w = onward w (last_state (run_entry b w).answer) (run_entry b w).lent

-- the state written and read back
abbrev pub read_back : Piece → World → World
read_back p w = onward w (state_in (read_entry p.slot (write_entry p.slot w.st p.slots).lent).answer) w.board

-- a first piece of budget b from w, then the others
unfoldable pub cut_run : ℕ → List Piece → World → World
cut_run b [] w = left_by b w
cut_run b (p ∷ ps) w = cut_run p.budget ps (read_back p (left_by b w))

-- what each piece answers: its last state and the number retired
unfoldable pub answers : ℕ → List Piece → World → List (Answer (State × ℕ))
answers b [] w = of_ran (run_entry b w).answer ∷ []
answers b (p ∷ ps) w = of_ran (run_entry b w).answer ∷ answers p.budget ps (read_back p (left_by b w))

-- the whole budget
unfoldable pub total : ℕ → List Piece → ℕ
total b [] = b
total b (p ∷ ps) = b + total p.budget ps

-- what each piece should answer: the manual's steps of its budget, from where the piece before it ended
unfoldable pub manual : ℕ → List Piece → World → List (Answer (State × ℕ))
manual b [] w = given ((ran b w).st, retired b w) ∷ []
manual b (p ∷ ps) w = given ((ran b w).st, retired b w) ∷ manual p.budget ps (ran b w)

-- for every accepted start and all pieces, zeros among their budgets, each with an accepted slot of its own: the final state and board are those of the manual's steps under the whole budget, uncut; every piece is accepted and answers its own part
abbrev pub Cut : Type 0
Cut =
    (b : ℕ) (ps : List Piece) (w : World) → Sized w → Accepted w → SlotsThere ps
    → (cut_run b ps w ≡ ran (total b ps) w) × (answers b ps w ≡ manual b ps w)

-- the numbers retired that are answered, added up
unfoldable pub sum_answered : List (Answer (State × ℕ)) → ℕ
sum_answered [] = 0
sum_answered (given r ∷ rest) = r.1 + sum_answered rest
sum_answered (refused_with n ∷ rest) = sum_answered rest

-- those of the pieces add up to the number retired in the uncut run
abbrev pub RetiredAddsUp : Type 0
RetiredAddsUp =
    (b : ℕ) (ps : List Piece) (w : World) → Sized w → Accepted w → SlotsThere ps
    → sum_answered (answers b ps w) ≡ retired (total b ps) w

-- ---- running a slot

-- reading slot k, running what it holds, and writing that back
abbrev pub slot_start : ℕ → Bench → World
slot_start k h = masked h.grant (state_in (read_entry k h.slots).answer) h.board

unfoldable pub slot_run : ℕ → ℕ → Bench → Bench
slot_run b k h = bench_on h (left_by b (slot_start k h)).board (write_entry k (left_by b (slot_start k h)).st h.slots).lent

-- is what running the slot leaves, refused or not
abbrev pub SlotRunIsRun : Type 0
SlotRunIsRun = (b k : ℕ) (h : Bench) → BoardFits h.board → AllBelow (2 ^ 8) h.slots → (resume_entry b k h).lent ≡ slot_run b k h

-- a start w, with its state written to slot k
abbrev pub saved : ℕ → World → List ℕ → Bench
saved k w slots = shared_bench w.grant w.board (write_entry k w.st slots).lent

-- slot k run once for each of these budgets
unfoldable pub slot_runs : ℕ → List ℕ → Bench → Bench
slot_runs k [] h = h
slot_runs k (b ∷ bs) h = slot_runs k bs (resume_entry b k h).lent

-- the numbers retired that these runs answer, added up
abbrev pub answered : Answer ℕ → ℕ
answered (given n) = n
answered (refused_with n) = 0

unfoldable pub slot_answers : ℕ → List ℕ → Bench → ℕ
slot_answers k [] h = 0
slot_answers k (b ∷ bs) h = answered (of_result (resume_entry b k h).answer) + slot_answers k bs (resume_entry b k h).lent

unfoldable pub added : List ℕ → ℕ
added [] = 0
added (b ∷ bs) = b + added bs

-- a start that is written to slot k and run there, time after time, ends as the manual's steps under the whole budget: the slot reads as their state, the board is theirs, and the numbers answered add up to theirs
abbrev pub SlotRunsAddUp : Type 0
SlotRunsAddUp =
    (k : ℕ) (bs : List ℕ) (w : World) (slots : List ℕ) → Sized w → Accepted w → slot_there k slots ≡ true
    → (of_result (read_entry k (slot_runs k bs (saved k w slots)).slots).answer ≡ given (ran (added bs) w).st)
    × ((slot_runs k bs (saved k w slots)).board ≡ (ran (added bs) w).board)
    × (slot_answers k bs (saved k w slots) ≡ retired (added bs) w)

-- no row of the table holds for a slot that is to run
abbrev pub SlotAccepted : ℕ → Bench → Type 0
SlotAccepted k h = (n : ℕ) → resume_rows k h n → ⊥

-- an accepted one answers how many of the manual's steps completed
abbrev pub SlotRunAnswers : Type 0
SlotRunAnswers = (b k : ℕ) (h : Bench) → SlotAccepted k h → of_result (resume_entry b k h).answer ≡ given (retired b (slot_world k h))

-- budget 0 changes nothing, and a stopped state stays stopped: running it retires 0 and alters nothing
abbrev pub SlotsStay : Type 0
SlotsStay =
    (b k : ℕ) (h : Bench) → AllBelow (2 ^ 8) h.slots → SlotAccepted k h → (b ≡ 0) ⊎ (paused (slot_world k h) ≡ false)
    → resume_entry b k h ≡ outcome (Ok 0) h

-- ---- one slot

-- 144 bytes that are not malformed are the record of the state that they say
abbrev pub RecordOfState : Type 0
RecordOfState = (r : List ℕ) → AllBelow (2 ^ 8) r → length r ≡ 144 → (RecordMalformed r → ⊥) → record_of (state_of r) ≡ r

-- a record alone is a buffer of one slot, and reads as its state: so is a state lent to the C interface
abbrev pub StateOfRecord : Type 0
StateOfRecord = (s : State) → Fits s → (Malformed s → ⊥) → of_result (read_entry 0 (record_of s)).answer ≡ given s

-- one that is malformed is refused; what stands in for the state that there is none of is malformed, so that whatever takes a state refuses it
abbrev pub NoStateOfRecord : Type 0
NoStateOfRecord =
    (r : List ℕ) → length r ≡ 144 → RecordMalformed r
    → ((n : ℕ) × (of_result (read_entry 0 r).answer ≡ refused_with n)) × Malformed (state_in (read_entry 0 r).answer)

-- a record of the time when bytes 137 to 143 were all zero: an even pc, and a stop number of at most 10
pub record OldRecord (r : List ℕ) : Type 0 where
  pub pc_even : load 4 0 r % 2 ≡ 0
  pub stop_known : load 1 136 r ≤ 10
  pub rest_zero : load 7 137 r ≡ 0

-- it is not malformed, and reads as the same state, its address 0
abbrev pub OldRecordsLoad : Type 0
OldRecordsLoad =
    (k : ℕ) (slots : List ℕ) → slot_there k slots ≡ true → OldRecord (slot_at k slots)
    → (RecordMalformed (slot_at k slots) → ⊥)
    × (of_result (read_entry k slots).answer
    ≡ given (state (load 4 0 (slot_at k slots)) (of_words 31 (drop 4 (slot_at k slots))) (load 8 128 (slot_at k slots)) (load 1 136 (slot_at k slots)) 0))

-- what an accepted run of a slot leaves there is not malformed
abbrev pub SlotStaysFormed : Type 0
SlotStaysFormed =
    (b k : ℕ) (h : Bench) → BoardFits h.board → AllBelow (2 ^ 8) h.slots → SlotAccepted k h
    → RecordMalformed (slot_at k (resume_entry b k h).lent.slots) → ⊥

-- writing slot k changes only bytes 144k to 144k + 143, which are then the state's record
abbrev pub WritesItsSlot : Type 0
WritesItsSlot =
    (k : ℕ) (s : State) (slots : List ℕ) → Fits s → of_result (write_entry k s slots).answer ≡ given tt
    → (take (144 * k) (write_entry k s slots).lent ≡ take (144 * k) slots)
    × (slot_at k (write_entry k s slots).lent ≡ record_of s)
    × (drop (144 * k + 144) (write_entry k s slots).lent ≡ drop (144 * k + 144) slots)
