-- The chart: the format class of an instruction, by bits 6 to 2 and funct3.
use Rattle.std.specs.Prelude.{ℕ, zero, suc, ◌+◌, ◌/◌, ◌%◌, Bool, false, not, cond, ◌||◌, List, [], ◌∷◌, eqb}
use Rattle.word.specs.Bits.{bits}
use Rattle.word.specs.Tables.{find}

-- the classes, as the chart's entries
abbrev pub none : ℕ
none = 0

abbrev pub R : ℕ
R = 1

abbrev pub I : ℕ
I = 2

abbrev pub S : ℕ
S = 3

abbrev pub B : ℕ
B = 4

abbrev pub U : ℕ
U = 5

abbrev pub J : ℕ
J = 6

-- every value of funct3
abbrev pub all : List ℕ
all = 0 ∷ 1 ∷ 2 ∷ 3 ∷ 4 ∷ 5 ∷ 6 ∷ 7 ∷ []

-- bits 6 to 2, the values of funct3, the class
abbrev pub rows : List (ℕ × (List ℕ × ℕ))
rows =
    -- load
    (0b00000, (0 ∷ 1 ∷ 2 ∷ 4 ∷ 5 ∷ [], I))
    -- fence
    ∷ (0b00011, (0 ∷ [], I))
    -- immediate arithmetic
    ∷ (0b00100, (all, I))
    -- auipc, lui
    ∷ (0b00101, (all, U))
    ∷ (0b01101, (all, U))
    -- store
    ∷ (0b01000, (0 ∷ 1 ∷ 2 ∷ [], S))
    -- register arithmetic
    ∷ (0b01100, (all, R))
    -- branch
    ∷ (0b11000, (0 ∷ 1 ∷ 4 ∷ 5 ∷ 6 ∷ 7 ∷ [], B))
    -- jalr
    ∷ (0b11001, (0 ∷ [], I))
    -- jal
    ∷ (0b11011, (all, J))
    -- system
    ∷ (0b11100, (0 ∷ [], I))
    ∷ []

-- x is one of the list
abbrev pub among : ℕ → List ℕ → Bool
among x [] = false
among x (y ∷ ys) = eqb x y || among x ys

-- the entry at bits 6 to 2 and funct3; what is in no row has none
unfoldable pub class_of : ℕ → ℕ → ℕ
class_of op f3 = find none rows op (λ row. cond (among f3 row.0) row.1 none)

-- the entry of 32 bits
abbrev pub charted : ℕ → ℕ
charted w = class_of (bits w 6 2) (bits w 14 12)

-- entry k is not 0
abbrev pub filled : ℕ → Bool
filled k = not (eqb (class_of (k / 8) (k % 8)) none)

-- how many of the numbers below n pass the test
unfoldable pub count : (ℕ → Bool) → ℕ → ℕ
count test zero = 0
count test (suc n) = cond (test n) 1 0 + count test n
