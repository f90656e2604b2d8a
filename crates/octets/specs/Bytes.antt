-- Little-endian numbers in bytes, over the width n: the n bytes of a number, lowest first, and the number that bytes say; a load and a store of n bytes at an address.
use Rattle.std.specs.Prelude.{ℕ, zero, suc, ◌+◌, ◌*◌, ◌/◌, ◌%◌, List, [], ◌∷◌, ◌++◌, take, drop}

unfoldable pub little_endian : ℕ → ℕ → List ℕ
little_endian zero v = []
little_endian (suc n) v = v % 256 ∷ little_endian n (v / 256)

unfoldable pub of_little_endian : List ℕ → ℕ
of_little_endian [] = 0
of_little_endian (b ∷ bs) = b + 256 * of_little_endian bs

-- the number in the n bytes from a
unfoldable pub load : ℕ → ℕ → List ℕ → ℕ
load n a m = of_little_endian (take n (drop a m))

-- the n bytes from a say v, modulo 2 ^ (8 * n), and the others stay
unfoldable pub store : ℕ → ℕ → ℕ → List ℕ → List ℕ
store n a v m = take a m ++ little_endian n v ++ drop (a + n) m
