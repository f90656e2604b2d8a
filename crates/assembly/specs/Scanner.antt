-- Reading a line: as far as a shape goes along, and of all shapes the one that goes furthest.
use Rattle.std.specs.Prelude.{Bool, true, false, cond, List, [], ◌∷◌, ◌++◌, ℕ, zero, suc, ◌+◌, eqb, ltb, take, drop}
use Rattle.assembly.specs.Lines.{Piece, byte, field, shape, is_digit, minus, Word, word}

-- at a byte's place, with the bytes from there on and the numbers so far; or stuck at a byte that can't go on
pub data Scan : Type 0 where
  at : ℕ → List ℕ → List Word → Scan
  stuck : ℕ → Scan

-- how many digits are in front
unfoldable pub run : List ℕ → ℕ
run [] = 0
run (b ∷ l) = let more = suc (run l) in cond (is_digit b) more 0

-- how long the number in front is
abbrev pub numeral : ℕ → List ℕ → ℕ
numeral f l = minus f l + run (drop (minus f l) l)

-- over one piece
abbrev pub over : Piece → ℕ → List ℕ → List Word → Scan
over (byte b) n [] ws = stuck n
over (byte b) n (x ∷ l) ws = cond (eqb x b) (at (suc n) l ws) (stuck n)
over (field f) n l ws = cond (ltb (minus f l) (numeral f l)) (at (n + numeral f l) (drop (numeral f l) l) (ws ++ (word f n (take (numeral f l) l) ∷ []))) (stuck (n + numeral f l))

abbrev pub step : Piece → Scan → Scan
step p (at n l ws) = over p n l ws
step p (stuck n) = stuck n

unfoldable pub scan : List Piece → Scan → Scan
scan [] r = r
scan (p ∷ s) r = scan s (step p r)

-- ---- all shapes

-- a line was read: with c: or not, its operation, its numbers, and the bytes after it; or the place that no shape goes beyond
pub data Line : Type 0 where
  reads : Bool → ℕ → List Word → List ℕ → Line
  unreadable : ℕ → Line

abbrev pub line_of : Bool → ℕ → Scan → Line
line_of short operation (at n l ws) = reads short operation ws l
line_of short operation (stuck n) = unreadable n

abbrev pub furthest : Line → Line → Line
furthest (reads c k ws l) other = reads c k ws l
furthest (unreadable m) (reads c k ws l) = reads c k ws l
furthest (unreadable m) (unreadable n) = unreadable (cond (ltb m n) n m)

-- among the first operations
unfoldable pub among : Bool → ℕ → List ℕ → Line
among short zero l = unreadable 0
among short (suc k) l = furthest (among short k l) (line_of short k (scan (shape short k) (at 0 l [])))

-- what the first line of a text is
abbrev pub line_at : List ℕ → Line
line_at l = furthest (among false 48 l) (among true 48 l)
