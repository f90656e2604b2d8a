-- A number as the disassembler writes it is allowed and reads back; and an allowed number is as the disassembler writes it.
use mathlib.Core.Path.{◌≡◌, refl, sym}
use mathlib.Core.List.{List, [], ◌∷◌, ◌++◌, append-nil, append_assoc}
use mathlib.Core.Bool.{Bool, true, false, cond, ◌&&◌, ◌||◌, not}
use mathlib.Core.Logic.{⊎_elim}
use Prim.Native.Nat.{ℕ, zero, suc, ◌+◌, ◌-◌, ◌*◌, ◌/◌, ◌%◌, ◌^◌, ◌≤◌, ◌<◌}
use native.Mathlib.Omega.{arith}
use lib.Dec.{T, eqb, leb, ltb, ltb→lt, lt→ltb, leb→le, le→leb, eqb→eq}
use lib.ListN.{length, get_or, drop}
use borrow.Author.Tests.{eqb-true, eq-eqb, ne_eqb}
use Rattle.word.proofs.Bools.{and_left, and_right, and_both, below}
use Rattle.ascii.specs.Numbers.{decimal, signed_decimal}
use Rattle.ascii.proofs.Numbers.{decimal_one, decimal-more, signed-plain, signed-minus}
use Rattle.assembly.specs.Lines.{is_digit, digits_only, minus, is_number}
use Rattle.assembly.specs.Numbers.{read, value_of, plain, fits}
use Rattle.assembly.proofs.Runs.{no_number}

-- a digit
digit-is : (d : ℕ) → d < 10 → T (is_digit (48 + d))
digit-is d h = and_both (leb 48 (48 + d)) _ (le→leb 48 (48 + d) (omega arith)) (le→leb (48 + d) 57 (omega arith))

digit_bounds : (b : ℕ) → T (is_digit b) → (48 ≤ b) × (b ≤ 57)
digit_bounds b h = (leb→le 48 b (and_left (leb 48 b) _ h), leb→le b 57 (and_right (leb 48 b) _ h))

-- ---- digits of a number

digits_last : (l : List ℕ) (b : ℕ) → T (digits_only l) → T (is_digit b) → T (digits_only (l ++ (b ∷ [])))
digits_last [] b h g = and_both (is_digit b) true g tt
digits_last (x ∷ l) b h g = and_both (is_digit x) _ (and_left (is_digit x) _ h) (digits_last l b (and_right (is_digit x) _ h) g)

read_last : (l : List ℕ) (d acc : ℕ) → read acc (l ++ ((48 + d) ∷ [])) ≡ read acc l * 10 + d
unfolding read
read_last [] d acc = omega arith
read_last (b ∷ l) d acc = read_last l d (acc * 10 + (b - 48))

-- the first digit is 0 only in the number 0
record Digits (n : ℕ) : Type 0 where
  only : T (digits_only (decimal n))
  back : read 0 (decimal n) ≡ n
  first : ℕ
  more : List ℕ
  is : decimal n ≡ first ∷ more
  above : 0 < n → 48 < first

digits_by : (m n : ℕ) → n < m → Digits n
unfolding read
digits_by zero n h = absurd (omega arith)
digits_by (suc m) n h =
    ⊎_elim
    (λ (l : n < 10). record {
      only = rw (decimal_one n l) (and_both (is_digit (48 + n)) true (digit-is n l) tt);
      back = rw (decimal_one n l) (omega arith);
      first = 48 + n;
      more = [];
      is = decimal_one n l;
      above = λ p. omega arith;
    })
    (λ (l : 10 ≤ n). let front = digits_by m (n / 10) (omega arith) in
    record {
      only = rw (decimal-more n l) (digits_last (decimal (n / 10)) (48 + n % 10) front.only (digit-is (n % 10) (omega arith)));
      back = rw (decimal-more n l, read_last, front.back) (omega arith);
      first = front.first;
      more = front.more ++ ((48 + n % 10) ∷ []);
      is = rw (decimal-more n l, front.is);
      above = λ p. front.above (omega arith);
    })
    (below n 10)

abbrev digits : (n : ℕ) → Digits n
digits n = digits_by (suc n) n (omega arith)

-- ---- a number of digits

decimal-read : (l : List ℕ) (acc : ℕ) → 0 < acc → T (digits_only l) → decimal (read acc l) ≡ decimal acc ++ l
unfolding read
decimal-read [] acc p h = sym (append-nil (decimal acc))
decimal-read (b ∷ l) acc p h =
    let u = digit_bounds b (and_left (is_digit b) _ h) in
    let q : (acc * 10 + (b - 48)) / 10 ≡ acc = omega (arith, u.0, u.1) in
    let r : 48 + (acc * 10 + (b - 48)) % 10 ≡ b = omega (arith, u.0, u.1) in
    rw (decimal-read l (acc * 10 + (b - 48)) (omega arith) (and_right (is_digit b) _ h), decimal-more (acc * 10 + (b - 48)) (omega arith), q, r, append_assoc)

decimal-tidy : (x : ℕ) (l : List ℕ) → T (digits_only (x ∷ l)) → (x ≡ 48 → l ≡ []) → decimal (read 0 (x ∷ l)) ≡ x ∷ l
unfolding read
decimal-tidy x l h z = ⊎_elim nonzero zeros (below 48 x)
  where
    u : (48 ≤ x) × (x ≤ 57)
    u = digit_bounds x (and_left (is_digit x) _ h)

    one : decimal (0 * 10 + (x - 48)) ≡ x ∷ []
    one =
        let e : 48 + (0 * 10 + (x - 48)) ≡ x = omega (arith, u.0) in
        rw (decimal_one (0 * 10 + (x - 48)) (omega (arith, u.1)), e)

    nonzero : 48 < x → decimal (read (0 * 10 + (x - 48)) l) ≡ x ∷ l
    nonzero g = rw (decimal-read l (0 * 10 + (x - 48)) (omega arith) (and_right (is_digit x) _ h), one)

    zeros : x ≤ 48 → decimal (read (0 * 10 + (x - 48)) l) ≡ x ∷ l
    zeros g = rw (z (omega (arith, u.0)), one)

-- a first digit 0 is alone
alone : (x n : ℕ) → T (not (eqb x 48) || eqb n 1) → x ≡ 48 → n ≡ 1
alone x n h q = eqb→eq n 1 (rw (eq-eqb x 48 q) at h)

empty : (l : List ℕ) → length l ≡ 0 → l ≡ []
empty [] e = refl
empty (x ∷ l) e = absurd (omega arith)

-- ---- the text of a value

abbrev pub shown : ℕ → ℕ → List ℕ
shown f v = cond (eqb f 4) (signed_decimal v) (decimal v)

pub record Back (f : ℕ) (l : List ℕ) (v : ℕ) : Type 0 where
  pub number : T (is_number f l)
  pub value : value_of f l ≡ v
  pub tidy : T (plain f l)
  pub fit : T (fits f l)

no_minus : (f x : ℕ) (l : List ℕ) → (x ≡ 45 → ⊥) → minus f (x ∷ l) ≡ 0
no_minus f x l h = rw (ne_eqb x 45 h) (go (eqb f 4))
  where
    go : (t : Bool) → ◌≡◌ {A = ℕ} (cond (t && false) 1 0) 0
    go true = refl
    go false = refl

first-tidy : (n k : ℕ) → 0 < n → T (not (eqb (get_or (decimal n) 0 0) 48) || eqb k 1)
first-tidy n k p =
    let d = digits n in
    rw (d.is, ne_eqb d.first 48 (λ e. omega (arith, d.above p))) tt

bare_back : (f v : ℕ) → v < 2 ^ 31 → Back f (decimal v) v
bare_back f v h =
    record {
      number = rw none (and_both (digits_only (decimal v)) _ d.only (lt→ltb 0 (length (decimal v)) long));
      value = rw (none, d.back);
      tidy = rw none (⊎_elim zeros (λ p. first-tidy v (length (decimal v)) p) (below v 1));
      fit = rw (none, d.back) (lt→ltb v (2 ^ 31 + 0) (omega arith));
    }
  where
    d : Digits v
    d = digits v

    low : 48 ≤ d.first
    low = (digit_bounds d.first (and_left (is_digit d.first) _ (rw d.is at d.only))).0

    none : minus f (decimal v) ≡ 0
    none = rw d.is (no_minus f d.first d.more (λ e. omega (arith, low)))

    long : 0 < length (decimal v)
    long = rw d.is (omega arith)

    zeros : v < 1 → T (not (eqb (get_or (decimal v) 0 0) 48) || eqb (length (decimal v)) 1)
    zeros l =
        let e : v ≡ 0 = omega arith in
        rw (e, decimal_one 0 (omega arith)) tt

minus_back : (v : ℕ) → 2 ^ 31 ≤ v → v < 2 ^ 32 → Back 4 (45 ∷ decimal (2 ^ 32 - v)) v
minus_back v l h =
    let d = digits (2 ^ 32 - v) in
    let long : 0 < length (decimal (2 ^ 32 - v)) = rw d.is (omega arith) in
    record {
      number = and_both (digits_only (decimal (2 ^ 32 - v))) _ d.only (lt→ltb 1 (suc (length (decimal (2 ^ 32 - v)))) (omega arith));
      value = rw d.back (omega arith);
      tidy = first-tidy (2 ^ 32 - v) (suc (length (decimal (2 ^ 32 - v)))) (omega arith);
      fit = rw d.back (lt→ltb (2 ^ 32 - v) (2 ^ 31 + 1) (omega arith));
    }

pub shown_back : (f v : ℕ) → (eqb f 4 ≡ true → v < 2 ^ 32) → (eqb f 4 ≡ false → v < 2 ^ 31) → Back f (shown f v) v
shown_back f v h g = go (eqb f 4) refl
  where
    go : (t : Bool) → eqb f 4 ≡ t → Back f (cond t (signed_decimal v) (decimal v)) v
    go true e =
        ⊎_elim (λ l. rw (signed-plain v l) (bare_back f v l))
        (λ l. rw (signed-minus v l, eqb-true f 4 e) (minus_back v l (h e)))
        (below v (2 ^ 31))
    go false e = bare_back f v (g e)

-- ---- an allowed number is the text of its value

pub shown_forth : (f : ℕ) (w : List ℕ) → T (is_number f w) → T (plain f w) → T (fits f w) → shown f (value_of f w) ≡ w
shown_forth f [] n p q = absurd (no_number f n)
shown_forth f (x ∷ w) n p q = go (eqb f 4) (eqb x 45) refl refl n p q
  where
    m : Bool → ℕ
    m t = cond t 1 0

    bare : T (digits_only (x ∷ w) && ltb 0 (suc (length w))) → T (not (eqb x 48) || eqb (suc (length w)) 1) → decimal (read 0 (x ∷ w)) ≡ x ∷ w
    bare n p =
        decimal-tidy x w (and_left (digits_only (x ∷ w)) _ n)
        (λ e. let o : suc (length w) ≡ 1 = alone x (suc (length w)) p e in empty w (omega arith))

    negative : (w : List ℕ) → T (digits_only w && ltb 1 (suc (length w))) → T (not (eqb (get_or w 0 0) 48) || eqb (suc (length w)) 1) → T (ltb (read 0 w) (2 ^ 31 + 1))
        → signed_decimal (2 ^ 32 - read 0 w) ≡ 45 ∷ w
    negative [] n p q = absurd n
    negative (y ∷ w) n p q =
        let low : read 0 (y ∷ w) < 2 ^ 31 + 1 = ltb→lt (read 0 (y ∷ w)) (2 ^ 31 + 1) q in
        let e : 2 ^ 32 - (2 ^ 32 - read 0 (y ∷ w)) ≡ read 0 (y ∷ w) = omega arith in
        rw (
          signed-minus (2 ^ 32 - read 0 (y ∷ w)) (omega arith),
          e,
          decimal-tidy y w (and_left (digits_only (y ∷ w)) _ n) (λ z. let o : suc (suc (length w)) ≡ 1 = alone y (suc (suc (length w))) p z in absurd (omega arith)),
        )

    go : (s t : Bool) → eqb f 4 ≡ s → eqb x 45 ≡ t → T (digits_only (drop (m (s && t)) (x ∷ w)) && ltb (m (s && t)) (suc (length w)))
        → T (not (eqb (get_or (drop (m (s && t)) (x ∷ w)) 0 0) 48) || eqb (suc (length w)) 1) → T (ltb (read 0 (drop (m (s && t)) (x ∷ w))) (2 ^ 31 + m (s && t)))
        → cond s (signed_decimal (cond (eqb (m (s && t)) 1) (2 ^ 32 - read 0 (drop (m (s && t)) (x ∷ w))) (read 0 (drop (m (s && t)) (x ∷ w)))))
        (decimal (cond (eqb (m (s && t)) 1) (2 ^ 32 - read 0 (drop (m (s && t)) (x ∷ w))) (read 0 (drop (m (s && t)) (x ∷ w)))))
        ≡ x ∷ w
    go true true e₁ e₂ n p q = rw (eqb-true x 45 e₂) (negative w n p q)
    go true false e₁ e₂ n p q = rw (signed-plain (read 0 (x ∷ w)) (ltb→lt (read 0 (x ∷ w)) (2 ^ 31 + 0) q)) (bare n p)
    go false true e₁ e₂ n p q = bare n p
    go false false e₁ e₂ n p q = bare n p
