-- Bits of a number, as the manual numbers them.
use Rattle.std.specs.Prelude.{ℕ, ◌+◌, ◌-◌, ◌*◌, ◌/◌, ◌%◌, ◌^◌, Bool, true, false}

-- bits hi down to lo of x, which the manual writes x[hi:lo]
abbrev pub bits : ℕ → ℕ → ℕ → ℕ
bits x hi lo = x / 2 ^ lo % 2 ^ (hi + 1 - lo)

-- the k lowest bits of x
abbrev pub low : ℕ → ℕ → ℕ
low k x = x % 2 ^ k

-- the number x of k bits, sign-extended to 32: its sign bit, bit k - 1, is copied to the bits k to 31
abbrev pub sext : ℕ → ℕ → ℕ
sext k x = x / 2 ^ (k - 1) * (2 ^ 32 - 2 ^ k) + x

-- 1 where a test holds, else 0
abbrev pub flag : Bool → ℕ
flag true = 1
flag false = 0
