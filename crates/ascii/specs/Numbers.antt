-- Numbers as text: decimal, signed decimal and hexadecimal.
use Rattle.std.specs.Prelude.{cond, List, [], ◌∷◌, ◌++◌, ℕ, zero, suc, ◌+◌, ◌-◌, ◌/◌, ◌%◌, ◌^◌, ltb}
use Prim.Native.Char.{code}

-- 0 to 9, then a to f
abbrev pub digit : ℕ → ℕ
digit d = cond (ltb d 10) (code "0" + d) (code "a" + (d - 10))

-- n in decimal, with no leading zero; k bounds how many digits stand in front of the last.
-- What the `let` binds is computed only where it is used: so a number takes as many steps as it has digits
unfoldable pub decimal_by : ℕ → ℕ → List ℕ
decimal_by zero n = digit (n % 10) ∷ []
decimal_by (suc k) n =
    let more = decimal_by k (n / 10) ++ (digit (n % 10) ∷ []) in
    cond (ltb n 10) (digit n ∷ []) more

-- n has at most n digits in front of the last, so none is left out
unfoldable pub decimal : ℕ → List ℕ
decimal n = decimal_by n n

-- a number of 32 bits in two's complement: a minus sign in front of a negative one
unfoldable pub signed_decimal : ℕ → List ℕ
signed_decimal n = cond (ltb n (2 ^ 31)) (decimal n) (code "-" ∷ decimal (2 ^ 32 - n))

-- the last k digits of n in hexadecimal
unfoldable pub hex : ℕ → ℕ → List ℕ
hex zero n = []
hex (suc k) n = hex k (n / 16) ++ (digit (n % 16) ∷ [])
