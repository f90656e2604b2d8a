-- Decimal and hexadecimal numbers, digit by digit, and how long they are.
use mathlib.Core.Path.{◌≡◌, refl, ap}
use mathlib.Core.List.{List, [], ◌∷◌, ◌++◌}
use mathlib.Core.Bool.{cond}
use mathlib.Core.Logic.{⊎_elim}
use Prim.Native.Nat.{ℕ, zero, suc, ◌+◌, ◌-◌, ◌/◌, ◌%◌, ◌^◌, ◌≤◌, ◌<◌}
use native.Mathlib.Omega.{arith}
use native.Mathlib.Nat.{pow-suc, pow-le-pow_right}
use lib.Dec.{ltb, lit<}
use lib.ListN.{length, length-append}
use borrow.Author.Tests.{lt-ltb, le-ltb}
use Rattle.word.proofs.Bools.{below}
use Rattle.ascii.specs.Numbers.{digit, decimal_by, decimal, signed_decimal, hex}

-- any bound that is large enough gives the same digits
by_same : (k j n : ℕ) → n ≤ k → n ≤ j → decimal_by k n ≡ decimal_by j n
unfolding decimal_by
by_same zero zero n h g = refl
by_same zero (suc j) n h g = let e : n ≡ 0 = omega arith in rw e
by_same (suc k) zero n h g = let e : n ≡ 0 = omega arith in rw e
by_same (suc k) (suc j) n h g =
    ap (λ (l : List ℕ). cond (ltb n 10) (digit n ∷ []) (l ++ (digit (n % 10) ∷ []))) (by_same k j (n / 10) (omega arith) (omega arith))

-- one digit
pub decimal_one : (n : ℕ) → n < 10 → decimal n ≡ (48 + n) ∷ []
unfolding decimal decimal_by
decimal_one zero h = refl
decimal_one (suc n) h = rw (lt-ltb (suc n) 10 h)

-- the last digit, behind the others
pub decimal-more : (n : ℕ) → 10 ≤ n → decimal n ≡ decimal (n / 10) ++ ((48 + n % 10) ∷ [])
unfolding decimal decimal_by
decimal-more zero h = absurd (omega arith)
decimal-more (suc n) h =
    let l : suc n % 10 < 10 = omega arith in
    rw (le-ltb (suc n) 10 h, lt-ltb (suc n % 10) 10 l)
    (ap (λ (l : List ℕ). l ++ ((48 + suc n % 10) ∷ [])) (by_same n (suc n / 10) (suc n / 10) (omega arith) (omega arith)))

tenth : (k n : ℕ) → n < 10 ^ suc (suc k) → n / 10 < 10 ^ suc k
tenth k n h = omega (arith, pow-suc 10 (suc k))

-- a number below 10 ^ (k + 1) has at most k + 1 digits
pub decimal_bound : (k n : ℕ) → n < 10 ^ suc k → length (decimal n) ≤ suc k
decimal_bound zero n h = rw (decimal_one n h) (omega arith)
decimal_bound (suc k) n h =
    ⊎_elim (λ l. rw (decimal_one n l) (omega arith))
    (λ g. rw (decimal-more n g, length-append) (omega (arith, decimal_bound k (n / 10) (tenth k n h))))
    (below n 10)

-- a number from 10 ^ k on has more than k digits
pub decimal_least : (k n : ℕ) → 10 ^ k ≤ n → suc k ≤ length (decimal n)
decimal_least zero n h =
    ⊎_elim (λ l. rw (decimal_one n l) (omega arith)) (λ g. rw (decimal-more n g, length-append) (omega arith)) (below n 10)
decimal_least (suc k) n h =
    let g : 10 ≤ n = omega (arith, pow-le-pow_right {n = 10} (lit< tt) {i = 1} {j = suc k} (omega arith)) in
    rw (decimal-more n g, length-append) (omega (arith, decimal_least k (n / 10) (omega arith)))

pub hex-length : (k n : ℕ) → length (hex k n) ≡ k
unfolding hex
hex-length zero n = refl
hex-length (suc k) n = simp length-append (omega (arith, hex-length k (n / 16)))

-- the last digit, behind the others
pub hex-more : (k n : ℕ) → 0 < k → hex k n ≡ hex (k - 1) (n / 16) ++ (digit (n % 16) ∷ [])
unfolding hex
hex-more zero n h = absurd (omega arith)
hex-more (suc k) n h = let e : suc k - 1 ≡ k = omega arith in rw e

-- a number that is not negative, and one that is
pub signed-plain : (n : ℕ) → n < 2 ^ 31 → signed_decimal n ≡ decimal n
unfolding signed_decimal
signed-plain n h = rw (lt-ltb n (2 ^ 31) h)

pub signed-minus : (n : ℕ) → 2 ^ 31 ≤ n → signed_decimal n ≡ 45 ∷ decimal (2 ^ 32 - n)
unfolding signed_decimal
signed-minus n h = rw (le-ltb n (2 ^ 31) h)
