-- Where the first line of a text is at fault, apart from any way of reading it.
use Rattle.std.specs.Prelude.{◌≡◌, Bool, true, false, List, ◌∷◌, ◌++◌, ℕ, ◌^◌, ◌≤◌, ◌<◌, length, take, Some}
use Rattle.ascii.specs.Ascii.{bytes}
use Rattle.isa.specs.declared.Inst.{Inst}
use Rattle.isa.specs.Encoding.{in_range}
use Rattle.isa.specs.Rvc.{expanded}
use Rattle.text.specs.Text.{short_text_of}
use Rattle.assembly.specs.Lines.{shape, Word, Spelled, Readable, Begins}
use Rattle.assembly.specs.Numbers.{allowed, right, checked}

-- 10: the first byte that can't continue a readable line; the byte after the last where the text ends early
pub record UnreadableAt (text : List ℕ) (p : ℕ) : Type 0 where
  pub within : p ≤ length text
  -- the bytes before it begin a readable line
  pub before : Begins (take p text)
  -- with it, or with more, they begin none
  pub beyond : (q : ℕ) → p < q → q ≤ length text → Begins (take q text) → ⊥
  -- and no readable line stands in front
  pub no_line : (line rest : List ℕ) → text ≡ line ++ rest → Readable line → ⊥

-- a readable line in front, its numbers, and the text after it
pub record FirstLine (text : List ℕ) (short : Bool) (operation : ℕ) (numbers : List Word) (rest : List ℕ) : Type 0 where
  pub line : List ℕ
  pub known : operation < 48
  pub split : text ≡ line ++ rest
  pub spelled : Spelled (shape short operation) 0 numbers line

-- the first byte of the leftmost number that is not allowed
pub record Leftmost (operation : ℕ) (numbers : List Word) (p : ℕ) : Type 0 where
  pub left : List Word
  pub word : Word
  pub more : List Word
  pub split : numbers ≡ left ++ (word ∷ more)
  pub fine : checked operation left ≡ right
  pub bad : allowed operation word ≡ false
  pub place : p ≡ word.place

-- 11: a readable line in front has such a number
pub record WrongNumberAt (text : List ℕ) (p : ℕ) : Type 0 where
  pub short : Bool
  pub operation : ℕ
  pub numbers : List Word
  pub rest : List ℕ
  pub read : FirstLine text short operation numbers rest
  pub leftmost : Leftmost operation numbers p

-- 12: in front is the line, with c:, of an instruction that no halfword stands for; its byte is 0
pub record NoHalfAt (text : List ℕ) (p : ℕ) : Type 0 where
  pub inst : Inst
  pub rest : List ℕ
  pub ranged : in_range inst ≡ true
  pub is : text ≡ short_text_of inst ++ (bytes "\n" ++ rest)
  pub none : (h : ℕ) → h < 2 ^ 16 → expanded h ≡ Some inst → ⊥
  pub place : p ≡ 0
