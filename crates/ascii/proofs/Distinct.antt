-- The text of a number determines the number: it reads back. And a text is cut into its pieces at its separators: a name or an operand that has none is one piece.
use mathlib.Core.Path.{◌≡◌, refl}
use mathlib.Core.List.{List, [], ◌∷◌, ◌++◌, append-nil, append_assoc}
use mathlib.Core.Bool.{Bool, true, false, cond, ◌&&◌, and-eq-true_iff}
use mathlib.Core.Logic.{⊎_elim}
use Prim.Native.Nat.{ℕ, zero, suc, ◌+◌, ◌-◌, ◌*◌, ◌/◌, ◌%◌, ◌^◌, ◌≤◌, ◌<◌}
use native.Mathlib.Omega.{arith}
use lib.Dec.{ltb, leb, eqb}
use lib.ListN.{get_or}
use borrow.Author.Tests.{lt-ltb, le-ltb, le-leb, leb-true, ne_eqb}
use Rattle.word.proofs.Bools.{below}
use Rattle.ascii.specs.Numbers.{decimal, signed_decimal}
use Rattle.ascii.proofs.Numbers.{decimal_one, decimal-more, signed-plain, signed-minus}

-- no byte of the text is below k
abbrev pub from : ℕ → List ℕ → Bool
from k [] = true
from k (b ∷ l) = leb k b && from k l

-- ---- pieces

-- The pieces between the separators. The space, the comma and the brackets are below the minus sign, and no byte of a name or an operand is; `begun` is the first piece so far
unfoldable pub split : List ℕ → List ℕ → List (List ℕ)
split begun [] = begun ∷ []
split begun (b ∷ l) = cond (ltb b 45) (begun ∷ split [] l) (split (begun ++ (b ∷ [])) l)

abbrev pub pieces : List ℕ → List (List ℕ)
pieces l = split [] l

-- a text of one piece
pub record Token (l : List ℕ) : Type 0 where
  pub one : pieces l ≡ l ∷ []

pub one_piece : (l : List ℕ) → from 45 l ≡ true → Token l
unfolding split
one_piece l e = record { one = go l [] e }
  where
    go : (l begun : List ℕ) → from 45 l ≡ true → split begun l ≡ (begun ++ l) ∷ []
    go [] begun e = rw append-nil
    go (b ∷ l) begun e =
        let u = (and-eq-true_iff (leb 45 b) (from 45 l)).0 e in
        rw (le-ltb b 45 (leb-true 45 b u.0), go l (begun ++ (b ∷ [])) u.1, append_assoc)

-- a separator cuts
split_at : (s : ℕ) → s < 45 → (l r begun : List ℕ) → split begun (l ++ (s ∷ r)) ≡ split begun l ++ split [] r
unfolding split
split_at s h [] r begun = rw (lt-ltb s 45 h)
split_at s h (b ∷ l) r begun = rw (split_at s h l r [], split_at s h l r (begun ++ (b ∷ []))) (either (ltb b 45))
  where
    either : (t : Bool)
        → cond t (begun ∷ (split [] l ++ split [] r)) (split (begun ++ (b ∷ [])) l ++ split [] r)
        ≡ cond t (begun ∷ split [] l) (split (begun ++ (b ∷ [])) l) ++ split [] r
    either true = refl
    either false = refl

pub pieces-at : (s : ℕ) → s < 45 → (l r : List ℕ) → pieces (l ++ (s ∷ r)) ≡ pieces l ++ pieces r
pieces-at s h l r = split_at s h l r []

-- ---- numbers

-- the digits after acc, read in decimal; a minus sign counts for nothing
unfoldable pub read : ℕ → List ℕ → ℕ
read acc [] = acc
read acc (b ∷ l) = read (acc * 10 + (b - 48)) l

-- a number of 32 bits with its sign
unfoldable pub number : List ℕ → ℕ
number l = cond (eqb (get_or l 0 0) 45) (2 ^ 32 - read 0 l) (read 0 l)

record Digits (n : ℕ) : Type 0 where
  value : read 0 (decimal n) ≡ n
  above : (k : ℕ) → k ≤ 48 → from k (decimal n) ≡ true

read_last : (l : List ℕ) (d acc : ℕ) → read acc (l ++ ((48 + d) ∷ [])) ≡ read acc l * 10 + d
unfolding read
read_last [] d acc = omega arith
read_last (b ∷ l) d acc = read_last l d (acc * 10 + (b - 48))

from_last : (k b : ℕ) → k ≤ b → (l : List ℕ) → from k l ≡ true → from k (l ++ (b ∷ [])) ≡ true
from_last k b h [] e = rw (le-leb k b h)
from_last k b h (c ∷ l) e =
    let u = (and-eq-true_iff (leb k c) (from k l)).0 e in
    rw (u.0, from_last k b h l u.1)

digits : (m n : ℕ) → n < m → Digits n
unfolding read
digits zero n h = absurd (omega arith)
digits (suc m) n h =
    ⊎_elim
    (λ (l : n < 10). record {
      value = rw (decimal_one n l) (omega arith);
      above = λ k g. rw (decimal_one n l, le-leb k (48 + n) (omega arith));
    })
    (λ (l : 10 ≤ n). let front = digits m (n / 10) (omega arith) in
    record {
      value = rw (decimal-more n l, read_last, front.value) (omega arith);
      above = λ k g. rw (decimal-more n l) (from_last k (48 + n % 10) (omega arith) (decimal (n / 10)) (front.above k g));
    })
    (below n 10)

abbrev digits_of : (n : ℕ) → Digits n
digits_of n = digits (suc n) n (omega arith)

pub read-decimal : (n : ℕ) → read 0 (decimal n) ≡ n
read-decimal n = (digits_of n).value

pub decimal_from : (n : ℕ) → from 45 (decimal n) ≡ true
decimal_from n = (digits_of n).above 45 (omega arith)

pub signed_from : (n : ℕ) → from 45 (signed_decimal n) ≡ true
signed_from n =
    ⊎_elim (λ l. rw (signed-plain n l) (decimal_from n)) (λ g. rw (signed-minus n g) (decimal_from (2 ^ 32 - n))) (below n (2 ^ 31))

pub number-decimal : (n : ℕ) → number (decimal n) ≡ n
unfolding number
number-decimal n = rw (digit-first (decimal n) ((digits_of n).above 48 (omega arith)), read-decimal n)
  where
    digit-first : (l : List ℕ) → from 48 l ≡ true → eqb (get_or l 0 0) 45 ≡ false
    digit-first [] e = refl
    digit-first (b ∷ l) e =
        let h : 48 ≤ b = leb-true 48 b ((and-eq-true_iff (leb 48 b) (from 48 l)).0 e).0 in
        ne_eqb b 45 (λ x. omega arith)

pub number-signed : (n : ℕ) → n < 2 ^ 32 → number (signed_decimal n) ≡ n
unfolding number read
number-signed n h =
    ⊎_elim (λ l. rw (signed-plain n l) (number-decimal n)) (λ g. rw (signed-minus n g, read-decimal (2 ^ 32 - n)) (omega arith))
    (below n (2 ^ 31))
