-- What a run is given: main memory, the fuse row, and two masks of the row's words; and what an entry asks of them.
use Rattle.std.specs.Prelude.{ℕ, ◌^◌, List, length, eqb, leb, Bool}
use Rattle.std.specs.Int.Bits.{bit_and}
use Rattle.answers.specs.Checks.{unless, Check}
use Rattle.answers.specs.declared.Refusal.TheVariants as R
use Rattle.word.specs.Bounds.{AllBelow}
use Rattle.boards.specs.declared.Grant.{Grant}
use Rattle.fuses.specs.Row.{row_checked, all_words}

pub record Board : Type 0 where
  pub mem : List ℕ
  pub row : List ℕ

abbrev pub board : List ℕ → List ℕ → Board
board m f = record { mem = m; row = f }

-- what the types say of every board that there is: bytes are bytes
pub record BoardFits (b : Board) : Type 0 where
  pub mem_bytes : AllBelow (2 ^ 8) b.mem
  pub row_bytes : AllBelow (2 ^ 8) b.row

abbrev pub longest_memory : ℕ
longest_memory = 65536

-- the own words of a run, and those of the other recipe on the row
abbrev pub grant : ℕ → ℕ → Grant
grant own other = record { own = own; other = other }

-- of a call without masks: all words are its own, and none is the other's
abbrev pub alone : Grant
alone = grant all_words 0

-- those of the other recipe's runs
abbrev pub swapped : Grant → Grant
swapped m = grant m.other m.own

-- no bit is set in both
abbrev pub disjoint : Grant → Bool
disjoint m = eqb (bit_and m.own m.other) 0

-- refusals 1, 2 and 3, then those that follow
abbrev pub board_checked : Board → Check → Check
board_checked b rest = unless (leb (length b.mem) longest_memory) R.MemoryTooLong (row_checked b.row rest)

-- then 16
abbrev pub start_checked : Board → Grant → Check → Check
start_checked b m rest = board_checked b (unless (disjoint m) R.MasksShare rest)
