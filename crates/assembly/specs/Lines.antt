-- The lines that can be read, apart from any way of reading them: the texts that the disassembler writes, with any number in the place of each of theirs.
use Rattle.std.specs.Prelude.{Bool, true, cond, ◌&&◌, List, [], ◌∷◌, ◌++◌, ℕ, suc, ◌+◌, ◌-◌, ◌<◌, T, eqb, leb, ltb, length, get_or, drop}
use Prim.Native.Char.{code}
use Rattle.text.specs.Samples.{sample}
use Rattle.text.specs.Text.{text_of, short_text_of}

-- what stands at a place of a line: a byte; or the number of a field, 1 rd, 2 rs1, 3 rs2, 4 the immediate
pub data Piece : Type 0 where
  byte : ℕ → Piece
  field : ℕ → Piece

-- in its text 1, 2, 3 and 4 stand for the fields; no name has a digit
abbrev pub piece_of : ℕ → Piece
piece_of b = cond (leb (code "1") b && leb b (code "4")) (field (b - code "0")) (byte b)

abbrev pub pieces : List ℕ → List Piece
pieces [] = byte (code "\n") ∷ []
pieces (b ∷ l) = piece_of b ∷ pieces l

-- its line, with c: in front or without
unfoldable pub shape : Bool → ℕ → List Piece
shape short operation = pieces (cond short (short_text_of (sample operation)) (text_of (sample operation)))

-- ---- numbers

abbrev pub is_digit : ℕ → Bool
is_digit b = leb (code "0") b && leb b (code "9")

abbrev pub digits_only : List ℕ → Bool
digits_only [] = true
digits_only (b ∷ l) = is_digit b && digits_only l

-- the length of the minus sign in front: an immediate may have one, a register's number none
abbrev pub minus : ℕ → List ℕ → ℕ
minus f l = cond (eqb f 4 && eqb (get_or l 0 0) (code "-")) 1 0

-- one digit or more
abbrev pub is_number : ℕ → List ℕ → Bool
is_number f l = digits_only (drop (minus f l) l) && ltb (minus f l) (length l)

-- a number of a line: its field, the place of its first byte, its bytes
pub record Word : Type 0 where
  pub of : ℕ
  pub place : ℕ
  pub digits : List ℕ

abbrev pub word : ℕ → ℕ → List ℕ → Word
word f n l = record { of = f; place = n; digits = l }

-- ---- lines

-- a line of this shape from byte n on, with its numbers from left to right, and its bytes
pub data Spelled : List Piece → ℕ → List Word → List ℕ → Type 0 where
  end : {n : ℕ} → Spelled [] n [] []
  same : {b n : ℕ} {s : List Piece} {ws : List Word} {l : List ℕ} → Spelled s (suc n) ws l → Spelled (byte b ∷ s) n ws (b ∷ l)
  number : {f n : ℕ} {s : List Piece} {ws : List Word} {l : List ℕ} (a : List ℕ) → T (is_number f a) → Spelled s (n + length a) ws l
      → Spelled (field f ∷ s) n (word f n a ∷ ws) (a ++ l)

pub record Readable (line : List ℕ) : Type 0 where
  pub short : Bool
  pub operation : ℕ
  pub known : operation < 48
  pub numbers : List Word
  pub spelled : Spelled (shape short operation) 0 numbers line

-- the bytes that a readable line may begin with
pub record Begins (l : List ℕ) : Type 0 where
  pub rest : List ℕ
  pub line : Readable (l ++ rest)
