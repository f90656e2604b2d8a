-- Reading by one shape, as the reader does it: with the fields so far in the place of the numbers so far.
use Rattle.std.specs.Prelude.{Option, Some, None, Result, Ok, Err, Bool, false, cond, List, [], ◌∷◌, ℕ, ◌+◌, eqb, ltb, drop}
use Rattle.std.specs.Option.{option_or}
use Rattle.assembly.specs.Lines.{Piece, byte, field, piece_of, minus, Word, word}
use Rattle.assembly.specs.Scanner.{numeral}
use Rattle.assembly.specs.Numbers.{value_of, holds_imm, allowed}
use Rattle.reader.specs.declared.Fields.{Fields}
use Rattle.reader.specs.declared.Cursor.{Cursor}
use Rattle.numerals.specs.Numbers.{front}

-- a place in the line, with the fields so far; or the place of a byte that can't go on
abbrev pub Read : Type 0
Read = Result Cursor ℕ

abbrev pub At : ℕ → Fields → Read
At n x = Ok (record { at = n; fields = x })

abbrev pub Stuck : ℕ → Read
Stuck n = Err n

abbrev pub fields : ℕ → ℕ → ℕ → ℕ → Option ℕ → Fields
fields d s t v wrong = record { rd = d; rs1 = s; rs2 = t; imm = v; wrong = wrong }

abbrev pub no_fields : Fields
no_fields = fields 0 0 0 0 None

-- a field with its value
abbrev pub put : ℕ → ℕ → Fields → Fields
put f v x = fields (cond (eqb 1 f) v x.rd) (cond (eqb 2 f) v x.rs1) (cond (eqb 3 f) v x.rs2) (cond (eqb 4 f) v x.imm) x.wrong

-- a wrong number at n; the leftmost counts
abbrev pub fault : ℕ → Fields → Fields
fault n x = fields x.rd x.rs1 x.rs2 x.imm (option_or x.wrong (Some n))

-- after a number
abbrev pub taken : ℕ → Word → Fields → Fields
taken k w x = cond (allowed k w) (put w.of (value_of w.of w.digits) x) (fault w.place x)

-- .. as the reader holds it
abbrev pub allowed_value : ℕ → ℕ → ℕ → Bool
allowed_value k f v = cond (eqb f 4) (holds_imm k v) (ltb v 32)

abbrev pub taken_number : ℕ → ℕ → ℕ → Option ℕ → Fields → Fields
taken_number k f at (Some v) x = cond (allowed_value k f v) (put f v x) (fault at x)
taken_number k f at None x = fault at x

abbrev pub starts_with : ℕ → List ℕ → Bool
starts_with b [] = false
starts_with b (c ∷ l) = eqb c b

-- over one piece
abbrev pub over_byte : ℕ → List ℕ → ℕ → Fields → Read
over_byte b l n x = cond (starts_with b l) (At (n + 1) x) (Stuck n)

abbrev pub over_field : ℕ → ℕ → List ℕ → ℕ → Fields → Read
over_field k f l n x = cond (ltb (minus f l) (numeral f l)) (At (n + numeral f l) (taken k (word f n (front f l)) x)) (Stuck (n + numeral f l))

unfoldable pub over_piece : ℕ → Piece → List ℕ → ℕ → Fields → Read
over_piece k (byte b) l n x = over_byte b l n x
over_piece k (field f) l n x = over_field k f l n x

abbrev pub step_on : ℕ → Piece → List ℕ → Read → Read
step_on k p s (Ok c) = over_piece k p (drop c.at s) c.at c.fields
step_on k p s (Err n) = Stuck n

-- along the bytes of a sample
unfoldable pub along : ℕ → List ℕ → List ℕ → Read → Read
along k [] s r = r
along k (b ∷ q) s r = along k q s (step_on k (piece_of b) s r)
