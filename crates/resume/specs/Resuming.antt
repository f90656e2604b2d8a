-- Running slot k: refusals 1, 2, 3, 16, 4, 5, 14 and 15. The state is read, run, and written back.
use Rattle.std.specs.Prelude.{ℕ, List, Err, None, Ok, Option, Result}
use Rattle.answers.specs.Answer.{Answer, given, refused}
use Rattle.answers.specs.Refusals.{word_of}
use Rattle.answers.specs.Outcomes.{Outcome, outcome, decided}
use Rattle.boards.specs.Boards.{Board, alone, start_checked}
use Rattle.boards.specs.declared.Grant.{Grant}
use Rattle.engine.specs.Steps.{World, masked, ran, retired}
use Rattle.records.specs.Records.{record_of, state_of}
use Rattle.slots.specs.Slots.{slot_at, slot_set, read_checked}
use Rattle.answers.specs.Checks.{Check}
use Rattle.answers.specs.declared.Refusal.{Refusal}

-- what is lent to a run that is carried on, the board and the slots; and the masks
pub record Bench : Type 0 where
  pub board : Board
  pub slots : List ℕ
  pub grant : Grant

abbrev pub shared_bench : Grant → Board → List ℕ → Bench
shared_bench m b slots = record { board = b; slots = slots; grant = m }

-- of a call without masks
abbrev pub bench : Board → List ℕ → Bench
bench b slots = shared_bench alone b slots

-- with the same masks, another board and other slots
abbrev pub bench_on : Bench → Board → List ℕ → Bench
bench_on h b slots = shared_bench h.grant b slots

-- the state in slot k, on the board
abbrev pub slot_world : ℕ → Bench → World
slot_world k h = masked h.grant (state_of (slot_at k h.slots)) h.board

-- a world left on the bench: its state's record in slot k
abbrev pub bench_left : ℕ → World → Bench → Bench
bench_left k w h = bench_on h w.board (slot_set k (record_of w.st) h.slots)

abbrev pub resume_checked : ℕ → Bench → Check
resume_checked k h = start_checked h.board h.grant (read_checked k h.slots)

abbrev pub resume_given : ℕ → ℕ → Bench → Outcome (Result ℕ Refusal) Bench
resume_given budget k h = outcome (Ok (retired budget (slot_world k h))) (bench_left k (ran budget (slot_world k h)) h)

abbrev pub resume_entry : ℕ → ℕ → Bench → Outcome (Result ℕ Refusal) Bench
resume_entry budget k h = decided (resume_checked k h) (resume_given budget k h) Err h
