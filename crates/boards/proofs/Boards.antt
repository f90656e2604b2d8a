-- The checks of memory, row and masks, and those that follow: where one of the four refuses, the rest does not matter; where all pass, the rest decides. A store leaves a sound board sound.
use Prim.Native.Nat.{ℕ, ◌+◌, ◌≤◌, ◌<◌}
use mathlib.Core.Path.{◌≡◌, refl}
use mathlib.Core.Bool.{true}
use mathlib.Core.List.{List}
use lib.ListN.{length}
use lib.Dec.{eqb, leb}
use borrow.Author.Tests.{eqb-true, eq-eqb, leb-true, le-leb}
use Rattle.answers.proofs.Checks.{both_passed, refused_on, passed_on}
use Rattle.answers.specs.declared.Refusal.{Refusal}
use Rattle.answers.specs.declared.Refusal.TheVariants.{MemoryTooLong, RowLength, RowRecord, MasksShare}
use Rattle.word.specs.Bits.{low}
use Rattle.octets.specs.Bytes.{store}
use Rattle.octets.proofs.Bytes.{length-store, store_below}
use Rattle.fuses.specs.Row.{all_keep, lowest_bad, row_checked, Row, burnt}
use Rattle.fuses.proofs.Burning.{row-burnt, burnt_below}
use Rattle.boards.specs.Boards.{Board, board, BoardFits, disjoint, start_checked, longest_memory}
use Rattle.boards.specs.declared.Grant.{Grant}
use Rattle.answers.specs.Checks.{Check, passed}
use Rattle.std.specs.Prelude.{Err}

-- a board that the entries accept
pub record Lendable (b : Board) : Type 0 where
  pub short : length b.mem ≤ longest_memory
  pub row : Row b.row

-- ---- the row alone

module _ (row : List ℕ) (rest : Check) where
  pub row-refused : {c : Check} {r : Refusal} → (c ≡ Err r → rest ≡ Err r) → row_checked row c ≡ Err r → row_checked row rest ≡ Err r
  row-refused f e = refused_on (eqb (length row) 512) RowLength (refused_on (all_keep 64 row) (RowRecord (lowest_bad 64 row)) f) e

  pub row_passed : {c q : Check} → (c ≡ passed → rest ≡ q) → row_checked row c ≡ passed → row_checked row rest ≡ q
  row_passed f e = passed_on (eqb (length row) 512) RowLength (passed_on (all_keep 64 row) (RowRecord (lowest_bad 64 row)) f) e

-- ---- all of it

module _ (b : Board) (m : Grant) (rest : Check) where
  pub start-refused : {r : Refusal} → start_checked b m passed ≡ Err r → start_checked b m rest ≡ Err r
  start-refused e = refused_on (leb (length b.mem) longest_memory) MemoryTooLong (row-refused b.row _ (refused_on (disjoint m) MasksShare (λ z. cc))) e

  pub start_passed : start_checked b m passed ≡ passed → start_checked b m rest ≡ rest
  start_passed e = passed_on (leb (length b.mem) longest_memory) MemoryTooLong (row_passed b.row _ (passed_on (disjoint m) MasksShare (λ z. refl))) e

  -- where all passed, so did the rest
  pub start_accepted : start_checked b m rest ≡ passed → Lendable b × (disjoint m ≡ true) × (rest ≡ passed)
  start_accepted e =
      let s = both_passed (leb (length b.mem) longest_memory) MemoryTooLong _ e in
      let l = both_passed (eqb (length b.row) 512) RowLength _ s.1 in
      let r = both_passed (all_keep 64 b.row) (RowRecord (lowest_bad 64 b.row)) _ l.1 in
      let d = both_passed (disjoint m) MasksShare rest r.1 in
      (record { short = leb-true _ _ s.0; row = (eqb-true _ _ l.0, r.0) }, d.0, d.1)

  pub start_passes : Lendable b → disjoint m ≡ true → start_checked b m rest ≡ rest
  start_passes h d = rw (le-leb (length b.mem) longest_memory h.short, eq-eqb (length b.row) 512 h.row.0, h.row.1, d)

-- ---- what a store leaves of a board

-- bytes are bytes, and the entries accept it
abbrev pub SoundBoard : Board → Type 0
SoundBoard b = BoardFits b × Lendable b

pub sound_store : (n i v : ℕ) (b : Board) → i + n ≤ length b.mem → SoundBoard b → SoundBoard (board (store n i v b.mem) b.row)
sound_store n i v b inside g = (
  record { mem_bytes = store_below n i v b.mem g.0.mem_bytes; row_bytes = g.0.row_bytes },
  record { short = rw (length-store n i v b.mem inside) g.1.short; row = g.1.row },
)

pub sound_burnt : (k v : ℕ) (b : Board) → k < 64 → (low 32 v ≡ 0 → ⊥) → SoundBoard b → SoundBoard (board b.mem (burnt k v b.row))
sound_burnt k v b h ne g = (
  record { mem_bytes = g.0.mem_bytes; row_bytes = burnt_below k v b.row g.0.row_bytes },
  record { short = g.1.short; row = row-burnt k v b.row h ne g.1.row },
)
