-- Sign extension, over the width.
use mathlib.Core.Path.{◌≡◌, ap, subst, ◌∙◌}
use mathlib.Core.Bool.{true}
use Prim.Native.Nat.{ℕ, ◌+◌, ◌-◌, ◌*◌, ◌/◌, ◌%◌, ◌^◌, ◌<◌, ◌≤◌}
use native.Mathlib.Nat.{le_of_lt, zero-mul, one-mul, zero-add, mul_assoc, mul-le-mul_right, mod-lt}
use native.Mathlib.Omega.{arith}
use lib.Pow.{pow_pos, pow_mono, shr_lt, high_ones}
use lib.Pow as Pow
use lib.Dec.{eqb}
use borrow.Author.Tests.{eqb-true}
use Rattle.word.specs.Bits.{low, sext}

-- 0xffff_ffff << k, on 32 bits: ones from bit k up
pub ones_from : (k : ℕ) → k < 32 → (2 ^ 32 - 1) * 2 ^ k % 2 ^ 32 ≡ 2 ^ 32 - 2 ^ k
ones_from k h =
    let p : 1 ≤ 2 ^ k = pow_pos k in
    let l : 2 ^ k ≤ 2 ^ 32 = pow_mono (le_of_lt h) in
    let e : (2 ^ 32 - 1) * 2 ^ k ≡ (2 ^ k - 1) * 2 ^ 32 + (2 ^ 32 - 2 ^ k) = omega arith in
    let s : 2 ^ 32 - 2 ^ k < 2 ^ 32 = omega arith in
    ap (λ (x : ℕ). x % 2 ^ 32) e ∙ Pow.low (2 ^ k - 1) 32 s

-- the sign bit is 0 or 1
pub sign_lt : (k x : ℕ) → 1 ≤ k → x < 2 ^ k → x / 2 ^ (k - 1) < 2
sign_lt k x p h =
    let e : k ≡ 1 + (k - 1) = omega arith in
    shr_lt 1 (k - 1) (subst (λ (n : ℕ). x < 2 ^ n) e h)

pub sext_clear : (k x : ℕ) → x / 2 ^ (k - 1) ≡ 0 → sext k x ≡ x
sext_clear k x z = rw (z, zero-mul, zero-add)

pub sext_set : (k x : ℕ) → x / 2 ^ (k - 1) ≡ 1 → sext k x ≡ 2 ^ 32 - 2 ^ k + x
sext_set k x z = rw (z, one-mul)

-- a sign-extended number has 32 bits
pub sext_lt : (k x : ℕ) → 1 ≤ k → k ≤ 32 → x < 2 ^ k → sext k x < 2 ^ 32
sext_lt k x p q h =
    let s : x / 2 ^ (k - 1) ≤ 1 = omega (arith, sign_lt k x p h) in
    let l : 2 ^ k ≤ 2 ^ 32 = pow_mono q in
    omega (arith, mul-le-mul_right (2 ^ 32 - 2 ^ k) s)

-- .. and so has one that is the sign extension of its k low bits
pub signed_lt : (k n : ℕ) → 1 ≤ k → k ≤ 32 → eqb (sext k (low k n)) n ≡ true → n < 2 ^ 32
signed_lt k n p q e = subst (λ (m : ℕ). m < 2 ^ 32) (eqb-true _ n e) (sext_lt k (low k n) p q (mod-lt n (pow_pos k)))

-- what sign extension adds to x is a multiple of 2 ^ k
pub sext_above : (k x : ℕ) → k ≤ 32 → sext k x ≡ x / 2 ^ (k - 1) * (2 ^ (32 - k) - 1) * 2 ^ k + x
sext_above k x h =
    let e : 32 ≡ 32 - k + k = omega arith in
    let ones : 2 ^ 32 - 2 ^ k ≡ (2 ^ (32 - k) - 1) * 2 ^ k = ap (λ (n : ℕ). 2 ^ n - 2 ^ k) e ∙ high_ones (32 - k) k in
    rw (ones, mul_assoc)
