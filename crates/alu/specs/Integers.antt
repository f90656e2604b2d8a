-- Bits read as integers, and integers as bits. A register's value is the number of its 32 bits.
-- `pos n` is the integer n and `negsuc n` is -(n + 1); `sel` is if, then, else; `shr_z z m` is z / m rounded down.
use Rattle.std.specs.Prelude.{ℕ, suc, ◌-◌, ◌%◌, ◌^◌, ℤ, pos, negsuc, nat_lt}
use Rattle.std.specs.Int.Signed.{shr_z}
use mir.Val.{sel}

-- x, a number of k bits, read as two's complement: x where its top bit is clear, and x - 2 ^ k where it is set
abbrev pub signed : ℕ → ℕ → ℤ
signed k x = sel (nat_lt x (2 ^ (k - 1))) (pos x) (negsuc (2 ^ k - suc x))

-- the k low bits of z in two's complement: z modulo 2 ^ k
abbrev pub low_bits : ℕ → ℤ → ℕ
low_bits k (pos n) = n % 2 ^ k
low_bits k (negsuc n) = 2 ^ k - suc (n % 2 ^ k)

-- bits 63 to 32 of z in two's complement
abbrev pub upper : ℤ → ℕ
upper z = low_bits 32 (shr_z z (2 ^ 32))
