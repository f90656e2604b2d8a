-- Demand 3, second part: over any sequence of runs and new starts on one row that only runs change, a word turns from blank to burnt at most once and keeps its value, and the words newly burnt are as many as the completed stores of values other than zero into the row.
-- Each statement is proved in proofs/Burning.antt.
use Rattle.std.specs.Prelude.{◌≡◌, Bool, true, false, not, ◌&&◌, List, [], ◌∷◌, ℕ, zero, suc, ◌+◌, ◌≤◌, ◌<◌, eqb, Err, Ok}
use Rattle.place.specs.declared.Place.{Place}
use Rattle.place.specs.declared.Place.TheVariants.{Memory, Fuse, Misaligned, Outside}
use Rattle.word.specs.Bits.{flag, low}
use Rattle.fuses.specs.Row.{value_at, mark_at, Row, row_checked, burnt_words, owns}
use Rattle.isa.specs.declared.StoreOp.{StoreOp}
use Rattle.state.specs.declared.State.{State}
use Rattle.state.specs.States.{advanced}
use Rattle.boards.specs.Boards.{Board, board}
use Rattle.boards.specs.declared.Grant.{Grant}
use Rattle.access.specs.Accesses.{store_place}
use Rattle.execute.specs.declared.Act.{Act}
use Rattle.execute.specs.declared.Act.TheVariants.{Sets, Loads, Stores, Ends}
use Rattle.engine.specs.Steps.{World, masked, onward, checked, asked, paused, completes, stepped, ran}
use Rattle.machine.specs.Entries.{run_entry}
use Rattle.answers.specs.Checks.{Check, passed}

-- ---- completed stores of values other than zero into the row, counted on the steps

abbrev pub in_window : Place → Bool
in_window (Memory i) = false
in_window (Fuse k) = true
in_window Misaligned = false
in_window Outside = false

-- the act is a store of a value other than zero (its low 32 bits: of a register the value itself), and its access lies in the fuse window
abbrev pub stores_there : Act → Board → Bool
stores_there (Sets rd v next) b = false
stores_there (Loads o rd a next) b = false
stores_there (Stores o v a next) b = in_window (store_place o a b) && not (eqb (low 32 v) 0)
stores_there (Ends why) b = false

-- the next step completes such a store
abbrev pub burns : World → Bool
burns w = completes w && stores_there (asked w) w.board

-- how many of the next n steps do
unfoldable pub stores_in : ℕ → World → ℕ
stores_in zero w = 0
stores_in (suc n) w = flag (burns w) + stores_in n (stepped w)

-- word k turns from blank to burnt in the next step
abbrev pub turns : ℕ → World → Bool
turns k w = eqb (mark_at k w.board.row) 0 && eqb (mark_at k (stepped w).board.row) 1

-- at how many of the next n steps it does
unfoldable pub turns_in : ℕ → ℕ → World → ℕ
turns_in k zero w = 0
turns_in k (suc n) w = flag (turns k w) + turns_in k n (stepped w)

-- ---- what happens to one row

-- a run from any state, with any memory and any masks; a new start is one from the fresh state, a piece of a cut run one from the state read back
pub record Start : Type 0 where
  pub st : State
  pub mem : List ℕ
  pub grant : Grant
  pub budget : ℕ

abbrev pub begun : Start → List ℕ → World
begun e f = masked e.grant e.st (board e.mem f)

-- the row after them
unfoldable pub row_after : List Start → List ℕ → List ℕ
row_after [] f = f
row_after (e ∷ es) f = row_after es (run_entry e.budget (begun e f)).lent.row

-- a refused run takes no steps
abbrev pub if_run : Check → ℕ → ℕ
if_run (Ok u) n = n
if_run (Err r) n = 0

unfoldable pub stores_over : List Start → List ℕ → ℕ
stores_over [] f = 0
stores_over (e ∷ es) f = if_run (checked (begun e f)) (stores_in e.budget (begun e f)) + stores_over es (run_entry e.budget (begun e f)).lent.row

unfoldable pub turns_over : ℕ → List Start → List ℕ → ℕ
turns_over k [] f = 0
turns_over k (e ∷ es) f = if_run (checked (begun e f)) (turns_in k e.budget (begun e f)) + turns_over k es (run_entry e.budget (begun e f)).lent.row

-- ---- the promises

-- the row stays a row: what runs leave passes checks 2 and 3
abbrev pub StaysARow : Type 0
StaysARow = (es : List Start) (f : List ℕ) → Row f → Row (row_after es f) × (row_checked (row_after es f) passed ≡ passed)

-- no word burnt twice: it turns from blank to burnt at most once, and not at all where it was burnt
abbrev pub BurntOnce : Type 0
BurntOnce = (es : List Start) (f : List ℕ) (k : ℕ) → Row f → k < 64 → turns_over k es f + flag (eqb (mark_at k f) 1) ≤ 1

-- a burnt word stays burnt and keeps its value
abbrev pub KeepsValue : Type 0
KeepsValue =
    (es : List Start) (f : List ℕ) (k : ℕ) → Row f → k < 64 → mark_at k f ≡ 1
    → (mark_at k (row_after es f) ≡ 1) × (value_at k (row_after es f) ≡ value_at k f)

-- also from any step of a run to its end
abbrev pub KeepsValueInRun : Type 0
KeepsValueInRun =
    (n : ℕ) (w : World) (k : ℕ) → Row w.board.row → k < 64 → mark_at k w.board.row ≡ 1
    → (mark_at k (ran n w).board.row ≡ 1) × (value_at k (ran n w).board.row ≡ value_at k w.board.row)

-- a burnt word's value is never zero
abbrev pub BurntNotZero : Type 0
BurntNotZero = (es : List Start) (f : List ℕ) (k : ℕ) → Row f → k < 64 → mark_at k (row_after es f) ≡ 1 → value_at k (row_after es f) ≡ 0 → ⊥

-- the words newly burnt are as many as the completed stores of values other than zero into the row
abbrev pub NewlyBurnt : Type 0
NewlyBurnt = (es : List Start) (f : List ℕ) → Row f → burnt_words 64 (row_after es f) ≡ burnt_words 64 f + stores_over es f

-- ---- a store to word k, one of its own, which the next step of w asks for

pub record StoresTo (w : World) (k v : ℕ) : Type 0 where
  pub o : StoreOp
  pub a : ℕ
  pub next : ℕ
  pub goes : paused w ≡ true
  pub asks : asked w ≡ Stores o v a next
  pub there : store_place o a w.board ≡ Fuse k
  pub mine : owns w.grant.own k ≡ true

-- of 0 to a blank word: it completes, counts as a step and goes on to the next instruction, and leaves all else as it was, memory and row byte for byte
abbrev pub ZeroIsNoPulse : Type 0
ZeroIsNoPulse =
    (w : World) (k v : ℕ) (s : StoresTo w k v) → low 32 v ≡ 0 → mark_at k w.board.row ≡ 0
    → (completes w ≡ true) × (stepped w ≡ onward w (advanced s.next w.st) w.board)

-- of any value, also 0, to a burnt word: it stops with 9, and memory and row are as they were
abbrev pub BurntStops : Type 0
BurntStops =
    (w : World) (k v : ℕ) → StoresTo w k v → mark_at k w.board.row ≡ 1
    → (completes w ≡ false) × ((stepped w).st.stop ≡ 9) × ((stepped w).board ≡ w.board)

-- steps that complete no store of a value other than zero into the row leave it, byte for byte: clearing burns nothing
abbrev pub ClearingBurnsNothing : Type 0
ClearingBurnsNothing = (n : ℕ) (w : World) → stores_in n w ≡ 0 → (ran n w).board.row ≡ w.board.row
