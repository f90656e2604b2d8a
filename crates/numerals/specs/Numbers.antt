-- Numbers as the reader holds them: a value past 32 bits stays as it was when it grew past them.
use Rattle.std.specs.Prelude.{◌≡◌, Ok, Err, Some, None, Option, Result, ℕ, ◌+◌, ◌-◌, ◌*◌, ◌^◌, Bool, cond, not, ◌&&◌, ◌||◌, List, [], ◌∷◌, take, ◌==◌, nat_lt}
use Prim.Native.Char.{code}
use Rattle.assembly.specs.Lines.{byte, field, piece_of, is_digit, minus}
use Rattle.assembly.specs.Scanner.{run, numeral}
use Rattle.assembly.specs.Numbers.{value_of, plain, fits}
use Rattle.numerals.specs.declared.Digits.{Digits}
use Rattle.numerals.specs.declared.Field.{Field}
use Rattle.numerals.specs.declared.Field.TheVariants.{Rd, Rs1, Rs2, Imm}
use Rattle.numerals.specs.declared.Number.{Number}

-- the number of a field among the fields
abbrev pub digit_of : Field → ℕ
digit_of Rd = 1
digit_of Rs1 = 2
digit_of Rs2 = 3
digit_of Imm = 4

-- the field whose number a byte of a sample stands for
abbrev pub field_in : ℕ → Option Field
field_in b = cond (b == code "1") (Some Rd) (cond (b == code "2") (Some Rs1) (cond (b == code "3") (Some Rs2) (cond (b == code "4") (Some Imm) None)))

-- what a byte of a sample stands for: the number of a field, or itself
abbrev pub Fielded : ℕ → Option Field → Type 0
Fielded b (Some f) = piece_of b ≡ field (digit_of f)
Fielded b None = piece_of b ≡ byte b

abbrev pub grown : ℕ → ℕ → ℕ
grown v b = cond (nat_lt v (2 ^ 32)) (v * 10 + (b - 48)) v

-- after the digits in front
unfoldable pub tally : ℕ → List ℕ → ℕ
tally v [] = v
tally v (b ∷ l) = let more = tally (grown v b) l in cond (is_digit b) more v

-- the digits in front, after v
abbrev pub digits_on : ℕ → ℕ → List ℕ → Digits
digits_on at v l = record { end = at + run l; value = tally v l }

abbrev pub digits_at : ℕ → List ℕ → Digits
digits_at at l = digits_on at 0 l

abbrev pub tidy : ℕ → ℕ → Bool
tidy b n = not (b == 48) || n == 1

-- the number in front
abbrev pub front : ℕ → List ℕ → List ℕ
front f l = take (numeral f l) l

abbrev pub good : ℕ → List ℕ → Bool
good f l = plain f (front f l) && fits f (front f l)

-- its value, if it is one that numbers have
abbrev pub value_at : ℕ → List ℕ → Option ℕ
value_at f l = cond (good f l) (Some (value_of f (front f l))) None

-- and the place after it; or the place of the first digit, where there is none
abbrev pub number_at : ℕ → ℕ → List ℕ → Result Number ℕ
number_at f at l = cond (nat_lt (minus f l) (numeral f l)) (Ok (record { end = at + numeral f l; value = value_at f l })) (Err (at + numeral f l))
