-- The first line of a text, as the reader finds it.
use Rattle.std.specs.Prelude.{Result, Ok, Err, Bool, true, false, cond, List, [], ◌∷◌, ◌≡◌, ℕ, zero, suc, ◌≤◌, eqb, ltb, length, drop}
use Rattle.assembly.specs.Lines.{Word}
use Rattle.assembly.specs.Scanner as S
use Rattle.reader.specs.declared.Fields.{Fields}
use Rattle.reader.specs.declared.Cursor.{Cursor}
use Rattle.reader.specs.declared.Reading.{Reading}
use Rattle.text.specs.Samples.{sample_line}
use Rattle.reader.specs.Reading.{Read, At, no_fields, taken, along}

-- what the reader finds: a line, or the place of the first byte that can't continue a readable one
abbrev pub Line : Type 0
Line = Result Reading ℕ

abbrev pub Reads : Bool → ℕ → Fields → ℕ → Line
Reads c k x n = Ok (record { short = c; operation = k; fields = x; end = n })

abbrev pub Unreadable : ℕ → Line
Unreadable n = Err n

abbrev pub reading : Bool → ℕ → Cursor → Reading
reading short k c = record { short = short; operation = k; fields = c.fields; end = c.at }

-- the fields after these numbers
unfoldable pub taken_all : ℕ → List Word → Fields → Fields
taken_all k [] x = x
taken_all k (w ∷ ws) x = taken_all k ws (taken k w x)

abbrev pub line_of : Bool → ℕ → Read → Line
line_of short k (Ok c) = Ok (reading short k c)
line_of short k (Err n) = Unreadable n

abbrev pub furthest : Line → Line → Line
furthest (Ok r) other = Ok r
furthest (Err m) (Ok r) = Ok r
furthest (Err m) (Err n) = Unreadable (cond (ltb m n) n m)

abbrev pub read_by : ℕ → List ℕ → ℕ → Read
read_by from s k = along k (sample_line k) s (At from no_fields)

unfoldable pub among_from : Bool → ℕ → ℕ → List ℕ → Line
among_from short from zero s = Unreadable 0
among_from short from (suc k) s = furthest (among_from short from k s) (line_of short k (read_by from s k))

-- how much of c: is in front
abbrev pub colon : List ℕ → ℕ
colon [] = 1
colon (b ∷ l) = cond (eqb b 58) 2 1

abbrev pub prefix : List ℕ → ℕ
prefix [] = 0
prefix (b ∷ l) = cond (eqb b 99) (colon l) 0

unfoldable pub first_line : List ℕ → Line
first_line s = furthest (among_from false 0 48 s) (cond (eqb (prefix s) 2) (among_from true 2 48 s) (Unreadable (prefix s)))

-- what the reader finds, and what the line is
abbrev pub Same : List ℕ → Line → S.Line → Type 0
Same s (Ok r) (S.reads d j ws rest) = (r.short ≡ d) × (r.operation ≡ j) × (r.fields ≡ taken_all j ws no_fields) × (rest ≡ drop r.end s) × (r.end ≤ length s)
Same s (Ok r) (S.unreadable m) = ⊥
Same s (Err n) (S.reads d j ws rest) = ⊥
Same s (Err n) (S.unreadable m) = n ≡ m
