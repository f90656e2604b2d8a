-- Pieces of numbers, each masked out and shifted into its place, joined by `|`: the result is their sum, where the places do not overlap.
-- One law for every immediate and every encoding: the pieces are data, and that their places go downwards is a test that antt computes.
-- The argument: what is gathered so far is a multiple of 2 ^ b, where b is the place of the last piece, and the next piece is below 2 ^ b.
use mathlib.Core.Path.{◌≡◌, refl, sym, ap, ◌∙◌}
use mathlib.Core.Bool.{Bool, true, ◌&&◌}
use Prim.Native.Nat.{ℕ, ◌+◌, ◌-◌, ◌*◌, ◌%◌, ◌^◌, ◌≤◌, ◌<◌}
use native.Mathlib.Nat.{add-mul, mul_assoc, mod-lt, mod-le, le_trans, lt_of_le_of_lt, lt_of_lt_of_le}
use native.Mathlib.Omega.{arith}
use lib.Bits.{bit_and, bit_or, and_mask, mask_lt, or_lt, or_shifted}
use lib.Pow.{pow_pos, pow-add, pow_mono, shl_lt, shl_exact}
use lib.Dec.{T, leb, leb→le}
use Rattle.word.proofs.Bools.{and_left, and_right}

-- `put n w j`: the w low bits of n, at bit j. `last n w`: the same at bit 0, with no shift
pub data Pieces : Type 0 where
  end : Pieces
  last : ℕ → ℕ → Pieces
  put : ℕ → ℕ → ℕ → Pieces → Pieces

-- (n & (2 ^ w - 1)) << j, on 32 bits
abbrev pub cut : ℕ → ℕ → ℕ → ℕ
cut n w j = bit_and n (2 ^ w - 1) * 2 ^ j % 2 ^ 32

-- what the code computes
abbrev pub ored : ℕ → Pieces → ℕ
ored a end = a
ored a (last n w) = bit_or a (bit_and n (2 ^ w - 1))
ored a (put n w j ps) = ored (bit_or a (cut n w j)) ps

-- what it is
abbrev pub sum : ℕ → Pieces → ℕ
sum a end = a
sum a (last n w) = a + n % 2 ^ w
sum a (put n w j ps) = sum (a + n % 2 ^ w * 2 ^ j) ps

-- each piece ends where the one before it starts, or lower
abbrev pub downwards : ℕ → Pieces → Bool
downwards b end = true
downwards b (last n w) = leb w b
downwards b (put n w j ps) = leb (w + j) b && downwards j ps

pub low_lt : (n w : ℕ) → n % 2 ^ w < 2 ^ w
low_lt n w = mod-lt n (pow_pos w)

cut_is : (n w j : ℕ) → w + j ≤ 32 → cut n w j ≡ n % 2 ^ w * 2 ^ j
cut_is n w j l = ap (λ (x : ℕ). x * 2 ^ j % 2 ^ 32) (and_mask n w) ∙ shl_exact w j 32 (low_lt n w) l

-- q at bit b is q * 2 ^ (b - j) at bit j
lower : (q b j : ℕ) → j ≤ b → q * 2 ^ b ≡ q * 2 ^ (b - j) * 2 ^ j
lower q b j l =
    let e : b ≡ b - j + j = omega arith in
    ap (λ (x : ℕ). q * 2 ^ x) e ∙ ap (λ (x : ℕ). q * x) (pow-add 2 (b - j) j) ∙ sym (mul_assoc q (2 ^ (b - j)) (2 ^ j))

joined : (q b x j : ℕ) → j ≤ b → q * 2 ^ b + x * 2 ^ j ≡ (q * 2 ^ (b - j) + x) * 2 ^ j
joined q b x j l = ap (λ (y : ℕ). y + x * 2 ^ j) (lower q b j l) ∙ sym (add-mul (q * 2 ^ (b - j)) x (2 ^ j))

-- one more piece x at bit j
or_is : (q b x w j : ℕ) → w + j ≤ b → x < 2 ^ w → bit_or (q * 2 ^ b) (x * 2 ^ j) ≡ q * 2 ^ b + x * 2 ^ j
or_is q b x w j m l = or_shifted q b (x * 2 ^ j) (lt_of_lt_of_le (shl_lt w j l) (pow_mono m))

scatter : (q b : ℕ) (ps : Pieces) → b ≤ 32 → T (downwards b ps) → ored (q * 2 ^ b) ps ≡ sum (q * 2 ^ b) ps
scatter q b end l t = refl
scatter q b (last n w) l t = ap (bit_or (q * 2 ^ b)) (and_mask n w) ∙ or_shifted q b (n % 2 ^ w) (lt_of_lt_of_le (low_lt n w) (pow_mono (leb→le w b t)))
scatter q b (put n w j ps) l t =
    let m : w + j ≤ b = leb→le (w + j) b (and_left (leb (w + j) b) (downwards j ps) t) in
    let jb : j ≤ b = omega arith in
    let j32 : j ≤ 32 = omega arith in
    let wj : w + j ≤ 32 = omega arith in
    let x : ℕ = n % 2 ^ w in
    let sums = joined q b x j jb in
    ap (λ (y : ℕ). ored (bit_or (q * 2 ^ b) y) ps) (cut_is n w j wj) ∙ ap (λ (y : ℕ). ored y ps) (or_is q b x w j m (low_lt n w) ∙ sums)
    ∙ scatter (q * 2 ^ (b - j) + x) j ps j32 (and_right (leb (w + j) b) (downwards j ps) t)
    ∙ ap (λ (y : ℕ). sum y ps) (sym sums)

-- the law, from a first piece: the w low bits of n at bit j
pub gather : (n w j : ℕ) (ps : Pieces) → T (leb (w + j) 32 && downwards j ps) → ored (cut n w j) ps ≡ sum (n % 2 ^ w * 2 ^ j) ps
gather n w j ps t =
    let l : w + j ≤ 32 = leb→le (w + j) 32 (and_left (leb (w + j) 32) (downwards j ps) t) in
    let j32 : j ≤ 32 = omega arith in
    ap (λ (y : ℕ). ored y ps) (cut_is n w j l) ∙ scatter (n % 2 ^ w) j ps j32 (and_right (leb (w + j) 32) (downwards j ps) t)

-- ---- the bound that sign extension asks: pieces from bit w + j downwards stay below 2 ^ (w + j)

cut_lt : (n w j : ℕ) → cut n w j < 2 ^ (w + j)
cut_lt n w j = lt_of_le_of_lt (mod-le (bit_and n (2 ^ w - 1) * 2 ^ j) (2 ^ 32)) (shl_lt w j (mask_lt n w))

ored_lt : (k a b : ℕ) (ps : Pieces) → a < 2 ^ k → b ≤ k → T (downwards b ps) → ored a ps < 2 ^ k
ored_lt k a b end h l t = h
ored_lt k a b (last n w) h l t = or_lt k a (bit_and n (2 ^ w - 1)) h (lt_of_lt_of_le (mask_lt n w) (pow_mono (le_trans (leb→le w b t) l)))
ored_lt k a b (put n w j ps) h l t =
    let m : w + j ≤ b = leb→le (w + j) b (and_left (leb (w + j) b) (downwards j ps) t) in
    let below : cut n w j < 2 ^ k = lt_of_lt_of_le (cut_lt n w j) (pow_mono (le_trans m l)) in
    ored_lt k (bit_or a (cut n w j)) j ps (or_lt k a (cut n w j) h below) (omega arith) (and_right (leb (w + j) b) (downwards j ps) t)

pub gathered_lt : (n w j : ℕ) (ps : Pieces) → T (downwards j ps) → ored (cut n w j) ps < 2 ^ (w + j)
gathered_lt n w j ps t = ored_lt (w + j) (cut n w j) j ps (cut_lt n w j) (omega arith) t
