-- The numbers of a line: their values, and which are allowed.
use Rattle.std.specs.Prelude.{Bool, cond, ◌&&◌, ◌||◌, not, List, [], ◌∷◌, ℕ, ◌+◌, ◌-◌, ◌*◌, ◌^◌, eqb, ltb, length, get_or, drop}
use Prim.Native.Char.{code}
use Rattle.isa.specs.Operations.{parts}
use Rattle.isa.specs.Building.{built}
use Rattle.isa.specs.Encoding.{in_range}
use Rattle.assembly.specs.Lines.{minus, Word}

-- ---- values

-- the digits after acc
unfoldable pub read : ℕ → List ℕ → ℕ
read acc [] = acc
read acc (b ∷ l) = read (acc * 10 + (b - code "0")) l

-- a number without its minus
abbrev pub magnitude : ℕ → List ℕ → ℕ
magnitude f l = read 0 (drop (minus f l) l)

-- its value: in two's complement where it has a minus
abbrev pub value_of : ℕ → List ℕ → ℕ
value_of f l = cond (eqb (minus f l) 1) (2 ^ 32 - magnitude f l) (magnitude f l)

-- no leading zero and no minus on zero: the first digit is 0 only in the number 0
abbrev pub plain : ℕ → List ℕ → Bool
plain f l = not (eqb (get_or (drop (minus f l) l) 0 0) (code "0")) || eqb (length l) 1

-- in 32 bits with a sign
abbrev pub fits : ℕ → List ℕ → Bool
fits f l = ltb (magnitude f l) (2 ^ 31 + minus f l)

-- the operation can hold the immediate
abbrev pub holds_imm : ℕ → ℕ → Bool
holds_imm operation v = in_range (built (parts operation 0 0 0 v))

abbrev pub allowed : ℕ → Word → Bool
allowed operation w =
    plain w.of w.digits && (fits w.of w.digits
    && cond (eqb w.of 4) (holds_imm operation (value_of w.of w.digits)) (ltb (value_of w.of w.digits) 32))

pub data Checked : Type 0 where
  right : Checked
  wrong : ℕ → Checked

-- the leftmost number that is not allowed
unfoldable pub checked : ℕ → List Word → Checked
checked operation [] = right
checked operation (w ∷ ws) = cond (allowed operation w) (checked operation ws) (wrong w.place)

-- ---- the value of each field

-- the value of a field after these numbers, where it was v before
unfoldable pub after : ℕ → ℕ → List Word → ℕ
after f v [] = v
after f v (w ∷ ws) = after f (cond (eqb f w.of) (value_of w.of w.digits) v) ws

-- 0 where the line has none
abbrev pub value : ℕ → List Word → ℕ
value f ws = after f 0 ws
