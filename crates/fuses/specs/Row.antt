-- The fuse row: 64 records of 8 bytes, no header. Bytes 0 to 3 hold the value, byte 4 the mark (0 blank, 1 burnt), bytes 5 to 7 zero.
use Rattle.std.specs.Prelude.{ℕ, zero, suc, ◌+◌, ◌-◌, ◌*◌, ◌/◌, ◌%◌, ◌^◌, Bool, true, cond, not, ◌&&◌, ◌||◌, ◌≡◌, List, length, eqb, Result, Ok, Err}
use Rattle.word.specs.Bits.{flag, low}
use Rattle.octets.specs.Bytes.{load, store}
use Rattle.answers.specs.Checks.{unless, Check}
use Rattle.answers.specs.Outcomes.{Outcome, outcome}
use Rattle.answers.specs.declared.Refusal.TheVariants.{RowLength, RowRecord}
use Rattle.fuses.specs.declared.AlreadyBurnt.{AlreadyBurnt}

-- word k of the row
abbrev pub value_at : ℕ → List ℕ → ℕ
value_at k row = load 4 (8 * k) row

abbrev pub mark_at : ℕ → List ℕ → ℕ
mark_at k row = load 1 (8 * k + 4) row

abbrev pub rest_at : ℕ → List ℕ → ℕ
rest_at k row = load 3 (8 * k + 5) row

-- its record keeps the rules: bytes 5 to 7 are zero, and it is burnt, mark 1, with a value other than zero, or blank, mark 0, with value 0
abbrev pub keeps_rules : ℕ → List ℕ → Bool
keeps_rules k row = eqb (rest_at k row) 0 && ((eqb (mark_at k row) 1 && not (eqb (value_at k row) 0)) || (eqb (mark_at k row) 0 && eqb (value_at k row) 0))

-- so do the first n records
unfoldable pub all_keep : ℕ → List ℕ → Bool
all_keep zero row = true
all_keep (suc n) row = all_keep n row && keeps_rules n row

-- the lowest of the first n words whose record breaks the rules; n where none does
unfoldable pub lowest_bad : ℕ → List ℕ → ℕ
lowest_bad zero row = 0
lowest_bad (suc n) row = cond (all_keep n row) (cond (keeps_rules n row) (suc n) n) (lowest_bad n row)

-- these bytes are a fuse row
abbrev pub Row : List ℕ → Type 0
Row row = (length row ≡ 512) × (all_keep 64 row ≡ true)

-- refusals 2 and 3, which tells the lowest word
abbrev pub row_checked : List ℕ → Check → Check
row_checked row rest = unless (eqb (length row) 512) RowLength (unless (all_keep 64 row) (RowRecord (lowest_bad 64 row)) rest)

-- word k burnt with v: the value stored and the mark set
unfoldable pub burnt : ℕ → ℕ → List ℕ → List ℕ
burnt k v row = store 1 (8 * k + 4) 1 (store 4 (8 * k) v row)

-- what a store to a word comes to: it is done, or the word is already burnt
abbrev pub Stored : Type 0
Stored = Result (Unit {0}) AlreadyBurnt

abbrev pub done : Stored
done = Ok tt

abbrev pub already_burnt : Stored
already_burnt = Err (record {})

-- a store of v to word k: a burnt word takes none, whatever v is; to a blank word 0 gives no pulse, and the row stays as it was
unfoldable pub word_stored : ℕ → ℕ → List ℕ → Outcome Stored (List ℕ)
word_stored k v row = cond (eqb (mark_at k row) 0) (outcome done (cond (eqb (low 32 v) 0) row (burnt k v row))) (outcome already_burnt row)

-- ---- masks of 64 bits

-- bit k of a mask, 0 the lowest, says whether word k is its own
abbrev pub owns : ℕ → ℕ → Bool
owns mask k = eqb (mask / 2 ^ k % 2) 1

-- the mask of all 64 words
abbrev pub all_words : ℕ
all_words = 2 ^ 64 - 1

-- ---- counting

-- how many of the first n words are burnt
unfoldable pub burnt_words : ℕ → List ℕ → ℕ
burnt_words zero row = 0
burnt_words (suc n) row = burnt_words n row + flag (eqb (mark_at n row) 1)
