-- Two recipes on one row, each with its own words: whose a word is, when a run stops with 11, that it leaves all other words alone, and that what it gets back does not depend on what they hold.
-- Each statement is proved in proofs/Sharing.antt.
use Rattle.std.specs.Prelude.{◌≡◌, true, false, List, ◌↔◌, ℕ, suc, ◌+◌, ◌*◌, ◌/◌, ◌^◌, ◌≤◌, ◌<◌, eqb, length, take, drop, get_or}
use Rattle.word.specs.Bounds.{AllBelow}
use Rattle.answers.specs.Answer.{refused_with, of_result}
use Rattle.fuses.specs.Row.{Row, owns, all_words}
use Rattle.state.specs.declared.State.{State}
use Rattle.boards.specs.Boards.{Board, board, BoardFits, grant, longest_memory}
use Rattle.boards.specs.declared.Grant.{Grant}
use Rattle.access.specs.Accesses.{load_width, store_width}
use Rattle.execute.specs.declared.Act.{Act}
use Rattle.execute.specs.declared.Act.TheVariants.{Sets, Loads, Stores, Ends}
use Rattle.engine.specs.Steps.{World, masked, world, asked, paused, stepped, ran, retired}
use Rattle.machine.specs.Entries.{step_entry, run_entry, of_ran}
use Rattle.resume.specs.Resuming.{Bench, shared_bench, bench, resume_entry}
use Rattle.promises.specs.Places.{FuseWord}

-- ---- whose a word is

-- bit k of a mask is word k: word 0 is the lowest binary digit, and word k + 1 of a number is word k of the number without that digit
abbrev pub BitByBit : Type 0
BitByBit = (m d : ℕ) → d < 2 → (owns (2 * m + d) 0 ≡ eqb d 1) × ((k : ℕ) → owns (2 * m + d) (suc k) ≡ owns m k)

-- so the mask of bit k alone has word k and no other
abbrev pub OneBit : Type 0
OneBit = (k j : ℕ) → owns (2 ^ k) j ≡ eqb j k

-- and the mask of a call without masks has all 64
abbrev pub AllOwned : Type 0
AllOwned = (k : ℕ) → k < 64 → owns all_words k ≡ true

-- byte i of a row is in a word of the mask; it is in none
abbrev pub Mine : ℕ → ℕ → Type 0
Mine own i = owns own (i / 8) ≡ true

abbrev pub Foreign : ℕ → ℕ → Type 0
Foreign own i = owns own (i / 8) ≡ false

-- rows of one length that have the same bytes where p holds
pub record Agree (p : ℕ → Type 0) (f g : List ℕ) : Type 0 where
  pub long : length f ≡ length g
  pub same : (i : ℕ) → p i → get_or f i 0 ≡ get_or g i 0

-- ---- stop 11

-- the act loads or stores at word k of the row: an aligned word access in the window
abbrev pub Reaches : Act → ℕ → Type 0
Reaches (Sets rd v next) k = ⊥
Reaches (Loads o rd a next) k = FuseWord (load_width o) a k
Reaches (Stores o v a next) k = FuseWord (store_width o) a k
Reaches (Ends why) k = ⊥

-- a step stops with 11 exactly if it would access a word that is not its own: so whatever the word holds, burnt or not, and whatever is stored; what is misaligned or outside is no such access
abbrev pub NotOwnedExactly : Type 0
NotOwnedExactly =
    (w : World) → length w.board.mem ≤ longest_memory → paused w ≡ true
    → ((stepped w).st.stop ≡ 11) ↔ ((k : ℕ) × Reaches (asked w) k × (owns w.grant.own k ≡ false))

-- it is all that masks add: a step that does not stop with 11 leaves the state and the board that it leaves without masks
abbrev pub OnlyStopAdded : Type 0
OnlyStopAdded =
    (w : World) → ((stepped w).st.stop ≡ 11 → ⊥)
    → ((stepped w).st ≡ (stepped (world w.st w.board)).st) × ((stepped w).board ≡ (stepped (world w.st w.board)).board)

-- a run without masks never comes to it
abbrev pub NoMasksNoStop : Type 0
NoMasksNoStop = (n : ℕ) (s : State) (b : Board) → (s.stop ≡ 11 → ⊥) → (ran n (world s b)).st.stop ≡ 11 → ⊥

-- nor is a call without masks refused with 16
abbrev pub NoMasksNoRefusal : Type 0
NoMasksNoRefusal =
    ((s : State) (b : Board) → of_result (step_entry (world s b)).answer ≡ refused_with 16 → ⊥)
    × ((n : ℕ) (s : State) (b : Board) → of_ran (run_entry n (world s b)).answer ≡ refused_with 16 → ⊥)
    × ((n k : ℕ) (b : Board) (slots : List ℕ) → of_result (resume_entry n k (bench b slots)).answer ≡ refused_with 16 → ⊥)

-- ---- words that are not its own never change

-- over any number of steps each keeps its eight bytes: the other's words, and those of neither
abbrev pub OthersKept : Type 0
OthersKept = (n : ℕ) (w : World) → length w.board.row ≡ 512 → Agree (Foreign w.grant.own) (ran n w).board.row w.board.row

-- over any call too, accepted or refused
abbrev pub EntriesKeepOthers : Type 0
EntriesKeepOthers =
    ((w : World) → Agree (Foreign w.grant.own) (step_entry w).lent.row w.board.row)
    × ((n : ℕ) (w : World) → Agree (Foreign w.grant.own) (run_entry n w).lent.row w.board.row)
    × ((n k : ℕ) (h : Bench) → Agree (Foreign h.grant.own) (resume_entry n k h).lent.board.row h.board.row)

-- nor does a run of a slot change another slot, so that two recipes may have theirs in one buffer
abbrev pub OtherSlotsKept : Type 0
OtherSlotsKept =
    (n k : ℕ) (h : Bench) → BoardFits h.board → AllBelow (2 ^ 8) h.slots
    → (take (144 * k) (resume_entry n k h).lent.slots ≡ take (144 * k) h.slots)
    × (drop (144 * k + 144) (resume_entry n k h).lent.slots ≡ drop (144 * k + 144) h.slots)

-- ---- what one recipe gets back does not depend on the other's words

-- from one state and memory, with one own mask, on rows that agree on the own words: after any number of steps the same state (pc, registers, count, stop, address), the same memory, the same own words, and the same number retired
abbrev pub Isolated : Type 0
Isolated =
    (n own p q : ℕ) (s : State) (m f g : List ℕ) → length f ≡ 512 → Agree (Mine own) f g
    → ((ran n (masked (grant own p) s (board m f))).st ≡ (ran n (masked (grant own q) s (board m g))).st)
    × ((ran n (masked (grant own p) s (board m f))).board.mem ≡ (ran n (masked (grant own q) s (board m g))).board.mem)
    × Agree (Mine own) (ran n (masked (grant own p) s (board m f))).board.row (ran n (masked (grant own q) s (board m g))).board.row
    × (retired n (masked (grant own p) s (board m f)) ≡ retired n (masked (grant own q) s (board m g)))

-- of a call: the same answer, a refusal among them, where both rows pass check 3
abbrev pub StepIsolated : Type 0
StepIsolated =
    (k : Grant) (s : State) (m f g : List ℕ) → Row f → Row g → Agree (Mine k.own) f g
    → ((step_entry (masked k s (board m f))).answer ≡ (step_entry (masked k s (board m g))).answer)
    × ((step_entry (masked k s (board m f))).lent.mem ≡ (step_entry (masked k s (board m g))).lent.mem)
    × Agree (Mine k.own) (step_entry (masked k s (board m f))).lent.row (step_entry (masked k s (board m g))).lent.row

abbrev pub RunIsolated : Type 0
RunIsolated =
    (n : ℕ) (k : Grant) (s : State) (m f g : List ℕ) → Row f → Row g → Agree (Mine k.own) f g
    → ((run_entry n (masked k s (board m f))).answer ≡ (run_entry n (masked k s (board m g))).answer)
    × ((run_entry n (masked k s (board m f))).lent.mem ≡ (run_entry n (masked k s (board m g))).lent.mem)
    × Agree (Mine k.own) (run_entry n (masked k s (board m f))).lent.row (run_entry n (masked k s (board m g))).lent.row

abbrev pub SlotRunIsolated : Type 0
SlotRunIsolated =
    (n i : ℕ) (k : Grant) (m f g slots : List ℕ) → Row f → Row g → Agree (Mine k.own) f g
    → ((resume_entry n i (shared_bench k (board m f) slots)).answer ≡ (resume_entry n i (shared_bench k (board m g) slots)).answer)
    × ((resume_entry n i (shared_bench k (board m f) slots)).lent.board.mem ≡ (resume_entry n i (shared_bench k (board m g) slots)).lent.board.mem)
    × ((resume_entry n i (shared_bench k (board m f) slots)).lent.slots ≡ (resume_entry n i (shared_bench k (board m g) slots)).lent.slots)
    × Agree (Mine k.own) (resume_entry n i (shared_bench k (board m f) slots)).lent.board.row (resume_entry n i (shared_bench k (board m g) slots)).lent.board.row
