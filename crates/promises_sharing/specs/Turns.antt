-- Demand 3 with masks: a run that is cut, with the other's runs between its pieces, ends as the uncut run on the first row; and two recipes that take turns on one row leave what each would leave alone, side by side.
-- Each statement is proved in proofs/Turns.antt.
use Rattle.std.specs.Prelude.{◌≡◌, true, false, cond, List, [], ◌∷◌, ℕ, ◌+◌, ◌/◌, get_or}
use Rattle.answers.specs.Answer.{Answer}
use Rattle.fuses.specs.Row.{owns}
use Rattle.state.specs.declared.State.{State}
use Rattle.boards.specs.Boards.{board, swapped}
use Rattle.boards.specs.declared.Grant.{Grant}
use Rattle.engine.specs.Steps.{World, onward, Sized, ran}
use Rattle.machine.specs.Entries.{run_entry, of_ran}
use Rattle.slots.specs.Slots.{slot_there}
use Rattle.promises.specs.Refusals.{Shared}
use Rattle.promises.specs.Steps.{Accepted}
use Rattle.promises.specs.Burning.{Start, row_after}
use Rattle.promises.specs.Cuts.{Piece, SlotsThere, left_by, read_back, total, manual}
use Rattle.promises_sharing.specs.Sharing.{Mine, Agree}

-- no word of the one mask is in the other
abbrev pub Apart : ℕ → ℕ → Type 0
Apart a b = (k : ℕ) → owns a k ≡ true → owns b k ≡ false

-- the other's runs have the masks swapped: where 16 is not refused, the two are apart
abbrev pub SwappedApart : Type 0
SwappedApart = (m : Grant) → (Shared m → ⊥) → Apart (swapped m).own m.own

-- ---- the other's runs between pieces

-- runs of the other recipe, from any states, with any memories, masks and budgets, refused or not; then a cut's slot, and the piece after it
pub record Turn : Type 0 where
  pub others : List Start
  pub piece : Piece

unfoldable pub pieces : List Turn → List Piece
pieces [] = []
pieces (t ∷ ts) = t.piece ∷ pieces ts

-- their own words are apart from these
unfoldable pub AllApart : ℕ → List Start → Type 0
AllApart own [] = Unit {0}
AllApart own (e ∷ es) = Apart e.grant.own own × AllApart own es

unfoldable pub TurnsApart : ℕ → List Turn → Type 0
TurnsApart own [] = Unit {0}
TurnsApart own (t ∷ ts) = AllApart own t.others × TurnsApart own ts

-- the same recipe on another row
abbrev pub on_row : List ℕ → World → World
on_row f w = onward w w.st (board w.board.mem f)

-- what the turn finds: the row as the other's runs leave it, and the state read back from its slot
abbrev pub turn_start : Turn → World → World
turn_start t w = read_back t.piece (on_row (row_after t.others w.board.row) w)

-- a first piece of budget b from w, then the turns
unfoldable pub in_turns : ℕ → List Turn → World → World
in_turns b [] w = left_by b w
in_turns b (t ∷ ts) w = in_turns t.piece.budget ts (turn_start t (left_by b w))

-- what each piece answers
unfoldable pub turn_answers : ℕ → List Turn → World → List (Answer (State × ℕ))
turn_answers b [] w = of_ran (run_entry b w).answer ∷ []
turn_answers b (t ∷ ts) w = of_ran (run_entry b w).answer ∷ turn_answers t.piece.budget ts (turn_start t (left_by b w))

-- the final state (pc, registers, count, stop, address), the memory and the own words of the row are those of the manual's steps under the whole budget, uncut, on the first row; and every piece is accepted and answers its own part of that run
abbrev pub EndsAsAlone : ℕ → List Turn → World → Type 0
EndsAsAlone b ts w =
    ((in_turns b ts w).st ≡ (ran (total b (pieces ts)) w).st)
    × ((in_turns b ts w).board.mem ≡ (ran (total b (pieces ts)) w).board.mem)
    × Agree (Mine w.grant.own) (in_turns b ts w).board.row (ran (total b (pieces ts)) w).board.row
    × (turn_answers b ts w ≡ manual b (pieces ts) w)

-- for every accepted start, and any runs between whose own words are apart
abbrev pub CutInTurns : Type 0
CutInTurns = (b : ℕ) (ts : List Turn) (w : World) → Sized w → Accepted w → SlotsThere (pieces ts) → TurnsApart w.grant.own ts → EndsAsAlone b ts w

-- the other's runs, masks swapped
unfoldable pub AllSwapped : Grant → List Start → Type 0
AllSwapped m [] = Unit {0}
AllSwapped m (e ∷ es) = (e.grant ≡ swapped m) × AllSwapped m es

unfoldable pub TurnsSwapped : Grant → List Turn → Type 0
TurnsSwapped m [] = Unit {0}
TurnsSwapped m (t ∷ ts) = AllSwapped m t.others × TurnsSwapped m ts

abbrev pub CutBesideTheOther : Type 0
CutBesideTheOther = (b : ℕ) (ts : List Turn) (w : World) → Sized w → Accepted w → SlotsThere (pieces ts) → TurnsSwapped w.grant ts → EndsAsAlone b ts w

-- ---- two recipes

-- a piece of the one recipe or of the other
pub data Move : Type 0 where
  first : Piece → Move
  second : Piece → Move

unfoldable pub MovesThere : List Move → Type 0
MovesThere [] = Unit {0}
MovesThere (first p ∷ ms) = (slot_there p.slot p.slots ≡ true) × MovesThere ms
MovesThere (second p ∷ ms) = (slot_there p.slot p.slots ≡ true) × MovesThere ms

-- a piece: from the state that is read back
abbrev pub moved : Piece → World → World
moved p w = left_by p.budget (read_back p w)

-- v and w take turns on one row: each piece starts on the row as the piece before it left it
unfoldable pub both : List Move → World → World → World × World
both [] v w = (v, w)
both (first p ∷ ms) v w = both ms (moved p v) (on_row (moved p v).board.row w)
both (second p ∷ ms) v w = both ms (on_row (moved p w).board.row v) (moved p w)

-- the whole budget of each
unfoldable pub firsts : List Move → ℕ
firsts [] = 0
firsts (first p ∷ ms) = p.budget + firsts ms
firsts (second p ∷ ms) = firsts ms

unfoldable pub seconds : List Move → ℕ
seconds [] = 0
seconds (first p ∷ ms) = seconds ms
seconds (second p ∷ ms) = p.budget + seconds ms

-- in any interleaving of their pieces each ends as it would alone on the first row, and the row that they leave has in the words of the first what the first would leave alone, and in all others what the second would
abbrev pub SideBySide : Type 0
SideBySide =
    (ms : List Move) (v w : World) → Sized v → Sized w → Accepted v → Accepted w → w.board.row ≡ v.board.row → Apart v.grant.own w.grant.own → MovesThere ms
    → ((both ms v w).0.st ≡ (ran (firsts ms) v).st)
    × ((both ms v w).0.board.mem ≡ (ran (firsts ms) v).board.mem)
    × ((both ms v w).1.st ≡ (ran (seconds ms) w).st)
    × ((both ms v w).1.board.mem ≡ (ran (seconds ms) w).board.mem)
    × ((both ms v w).1.board.row ≡ (both ms v w).0.board.row)
    × ((i : ℕ) → get_or (both ms v w).0.board.row i 0 ≡ cond (owns v.grant.own (i / 8)) (get_or (ran (firsts ms) v).board.row i 0) (get_or (ran (seconds ms) w).board.row i 0))
