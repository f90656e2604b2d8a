-- What a line gives, and what a text gives.
use Rattle.std.specs.Prelude.{Bool, true, false, List, [], ◌∷◌, ◌++◌, ℕ, zero, suc, length, Err, Ok, Result}
use Rattle.answers.specs.declared.Refusal.{Refusal}
use Rattle.answers.specs.declared.Refusal.TheVariants.{Unreadable, NumberNotAllowed, NoShortLine}
use Rattle.isa.specs.declared.Inst.{Inst}
use Rattle.isa.specs.Operations.{parts}
use Rattle.isa.specs.Building.{built}
use Rattle.isa.specs.Encoding.{word_of}
use Rattle.isa.specs.Shortening.{shortened}
use Rattle.octets.specs.Bytes.{little_endian}
use Rattle.assembly.specs.Lines.{Word}
use Rattle.assembly.specs.Scanner.{Line, reads, unreadable, line_at}
use Rattle.assembly.specs.Numbers.{Checked, right, wrong, checked, value}
use Rattle.isa.specs.declared.Unshortened.TheVariants as U
use Rattle.isa.specs.declared.Unshortened.{Unshortened}

-- ---- one line

unfoldable pub instruction : ℕ → List Word → Inst
instruction operation ws = built (parts operation (value 1 ws) (value 2 ws) (value 3 ws) (value 4 ws))

-- the bytes of a line, and the text after it; or a refusal and its byte
pub data Meaning : Type 0 where
  gives : List ℕ → List ℕ → Meaning
  faulty : Refusal → ℕ → Meaning

-- the smallest halfword; 12: there is none
abbrev pub half_of : Result ℕ Unshortened → List ℕ → Meaning
half_of (Ok h) rest = gives (little_endian 2 h) rest
half_of (Err U.OutOfRange) rest = faulty NoShortLine 0
half_of (Err U.NoShortForm) rest = faulty NoShortLine 0

-- with c: or without
abbrev pub code_of : Bool → Inst → List ℕ → Meaning
code_of true i rest = half_of (shortened i) rest
code_of false i rest = gives (little_endian 4 (word_of i)) rest

-- 11: the leftmost number that is not allowed
abbrev pub unless_wrong : Checked → Meaning → Meaning
unless_wrong right m = m
unless_wrong (wrong n) m = faulty NumberNotAllowed n

-- 10 before 11, and 11 before 12
abbrev pub meaning_of : Line → Meaning
meaning_of (reads short operation ws rest) = unless_wrong (checked operation ws) (code_of short (instruction operation ws) rest)
meaning_of (unreadable n) = faulty Unreadable n

-- of the first line of a text
abbrev pub meaning : List ℕ → Meaning
meaning text = meaning_of (line_at text)

-- ---- all lines

-- the bytes of all lines; or the refusal of the first line at fault, the line and its byte, both from 0
pub data Assembly : Type 0 where
  output : List ℕ → Assembly
  fault : Refusal → ℕ → ℕ → Assembly

-- a line before others: its bytes before theirs, and a fault of theirs one line further
abbrev pub before : List ℕ → Assembly → Assembly
before bs (output more) = output (bs ++ more)
before bs (fault r line n) = fault r (suc line) n

abbrev pub onward : (List ℕ → Assembly) → Meaning → Assembly
onward more (gives bs rest) = before bs (more rest)
onward more (faulty r n) = fault r 0 n

-- k bounds how many lines there are
unfoldable pub assembled_by : ℕ → List ℕ → Assembly
assembled_by zero text = output []
assembled_by (suc k) [] = output []
assembled_by (suc k) (b ∷ text) = onward (assembled_by k) (meaning (b ∷ text))

-- each line has a byte at least
unfoldable pub assembled : List ℕ → Assembly
assembled text = assembled_by (length text) text
