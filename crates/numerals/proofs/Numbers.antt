-- A number as the reader holds it is the number in front.
use Rattle.std.proofs.Common.{Ok, Err, Some, None, Option, Result, ◌≡◌, ℕ, zero, suc, ◌+◌, ◌-◌, ◌*◌, ◌^◌, ◌<◌, ◌≤◌, Bool, true, false, cond, not, ◌&&◌, ◌||◌, eqb, ltb, ◌⊎◌, List, [], ◌∷◌, length, get_or, take, drop, sym, refl, ap, ◌∙◌, subst, inl, inr, ⊎_elim, add-zero, arith, ltb→lt, length-take-le, get_or-drop, drop-drop, take-add, drop_at, ltb-true, le-ltb, lt-ltb, eq-eqb, ne_eqb, eqb-true}
use Rattle.word.proofs.Bools.{below, and_left, and_right, holds, is_true}
use Rattle.assembly.specs.Lines.{is_digit, minus}
use Rattle.assembly.specs.Scanner.{run, numeral}
use Rattle.assembly.specs.Numbers.{read, magnitude, value_of, plain, fits}
use Rattle.assembly.proofs.Runs.{read_number}
use Rattle.numerals.proofs.Laws.{first_of, tally-pos}
use Rattle.numerals.specs.declared.Digits.{Digits}
use Rattle.numerals.specs.declared.Number.{Number}
use Rattle.numerals.specs.Numbers.{grown, tally, digits_at, tidy, front, good, value_at, number_at}

-- ---- the value: the same, or both past 32 bits

Near : ℕ → ℕ → Type 0
Near a b = (a ≡ b) ⊎ ((2 ^ 32 ≤ a) × (2 ^ 32 ≤ b))

near_grown : (v w b : ℕ) → Near v w → Near (grown v b) (w * 10 + (b - 48))
unfolding Near
near_grown v w b h = ⊎_elim (λ (l : v < 2 ^ 32). rw (lt-ltb v (2 ^ 32) l) (low l h)) (λ (l : 2 ^ 32 ≤ v). rw (le-ltb v (2 ^ 32) l) (inr (l, high l h))) (below v (2 ^ 32))
  where
    low : v < 2 ^ 32 → (v ≡ w) ⊎ ((2 ^ 32 ≤ v) × (2 ^ 32 ≤ w)) → (v * 10 + (b - 48) ≡ w * 10 + (b - 48)) ⊎ ((2 ^ 32 ≤ v * 10 + (b - 48)) × (2 ^ 32 ≤ w * 10 + (b - 48)))
    low l (inl e) = inl (ap (λ (n : ℕ). n * 10 + (b - 48)) e)
    low l (inr g) = absurd (omega (arith, g.0))

    high : 2 ^ 32 ≤ v → (v ≡ w) ⊎ ((2 ^ 32 ≤ v) × (2 ^ 32 ≤ w)) → 2 ^ 32 ≤ w * 10 + (b - 48)
    high l (inl e) = omega arith
    high l (inr g) = omega (arith, g.1)

near : (v w : ℕ) (l : List ℕ) → Near v w → Near (tally v l) (read w (take (run l) l))
unfolding tally read run
near v w [] h = h
near v w (b ∷ l) h = go (λ q. near (grown v b) (w * 10 + (b - 48)) l q) (is_digit b)
  where
    go : (Near (grown v b) (w * 10 + (b - 48)) → Near (tally (grown v b) l) (read (w * 10 + (b - 48)) (take (run l) l))) → (t : Bool)
        → Near (cond t (tally (grown v b) l) v) (read w (take (cond t (suc (run l)) 0) (b ∷ l)))
    go ih true = ih (near_grown v w b h)
    go ih false = h

-- ---- the number in front

record Front (f : ℕ) (l : List ℕ) : Type 0 where
  sign : minus f (front f l) ≡ minus f l
  rest : drop (minus f l) (front f l) ≡ take (run (drop (minus f l) l)) (drop (minus f l) l)
  first : get_or (drop (minus f l) (front f l)) 0 0 ≡ get_or (drop (minus f l) l) 0 0
  long : length (front f l) ≡ numeral f l

get_d_take_0 : (n : ℕ) (l : List ℕ) → 0 < n → get_or (take n l) 0 0 ≡ get_or l 0 0
get_d_take_0 zero l h = absurd (omega arith)
get_d_take_0 (suc n) [] h = refl
get_d_take_0 (suc n) (x ∷ l) h = refl

in_front : (f : ℕ) (l : List ℕ) → minus f l < numeral f l → Front f l
in_front f l h =
    record {
      sign = rw (get_d_take_0 (numeral f l) l (omega arith));
      rest = rest;
      first = ap (λ (l : List ℕ). get_or l 0 0) rest ∙ get_d_take_0 r (drop m l) (omega arith);
      long = length-take-le (numeral f l) l within;
    }
  where
    m : ℕ
    m = minus f l

    r : ℕ
    r = run (drop m l)

    within : numeral f l ≤ length l
    within = (read_number f l h).1

    rest : drop m (take (m + r) l) ≡ take r (drop m l)
    rest = ap (drop m) (take-add m r l) ∙ drop_at (take m l) (take r (drop m l)) m (length-take-le m l (omega (arith, within)))

-- ---- as the reader has it: a sign m, r digits, the value t, the first digit b

abbrev pub held : ℕ → ℕ → ℕ → ℕ → ℕ → Result Number ℕ
held at m r t b =
    cond (ltb m (m + r)) (Ok (record { end = at + (m + r); value = cond (tidy b (m + r) && ltb t (2 ^ 31 + m)) (Some (cond (eqb m 1) (2 ^ 32 - t) t)) None }))
    (Err (at + (m + r)))

near_test : (t v n : ℕ) → Near t v → n ≤ 2 ^ 32 → ltb t n ≡ ltb v n
unfolding Near
near_test t v n (inl e) h = rw e
near_test t v n (inr g) h = rw (le-ltb t n (omega (arith, g.0)), le-ltb v n (omega (arith, g.1)))

near_same : (t v n : ℕ) → Near t v → n ≤ 2 ^ 32 → t < n → t ≡ v
unfolding Near
near_same t v n (inl e) h l = e
near_same t v n (inr g) h l = absurd (omega (arith, g.0))

minus_most : (f : ℕ) (l : List ℕ) → minus f l ≤ 1
minus_most f l = go (eqb f 4 && eqb (get_or l 0 0) 45)
  where
    go : (s : Bool) → cond s 1 0 ≤ 1
    go true = omega arith
    go false = omega arith

near_zero : (l : List ℕ) → Near (tally 0 l) (read 0 (take (run l) l))
unfolding Near
near_zero l = near 0 0 l (inl refl)

pub number_held : (f at : ℕ) (l : List ℕ) → let m = minus f l in held at m (run (drop m l)) (tally 0 (drop m l)) (get_or (drop m l) 0 0) ≡ number_at f at l
number_held f at l = go (ltb m (numeral f l)) refl
  where
    m : ℕ
    m = minus f l

    t : ℕ
    t = tally 0 (drop m l)

    b : ℕ
    b = get_or (drop m l) 0 0

    v : ℕ
    v = magnitude f (front f l)

    num : Bool → Option ℕ → Result Number ℕ
    num a v = cond a (Ok (record { end = at + numeral f l; value = v })) (Err (at + numeral f l))

    values : (g : Bool) → (g ≡ true → t ≡ v) → cond g (Some (cond (eqb m 1) (2 ^ 32 - t) t)) None ≡ cond g (Some (cond (eqb m 1) (2 ^ 32 - v) v)) None
    values true e = rw (e refl)
    values false e = refl

    go : (a : Bool) → ltb m (numeral f l) ≡ a → num a (cond (tidy b (numeral f l) && ltb t (2 ^ 31 + m)) (Some (cond (eqb m 1) (2 ^ 32 - t) t)) None) ≡ num a (value_at f l)
    go false e = refl
    go true e = λ i. num true (both i)
      where
        F : Front f l
        F = in_front f l (ltb-true m (numeral f l) e)

        size : v ≡ read 0 (take (run (drop m l)) (drop m l))
        size = ap (λ (k : ℕ). read 0 (drop k (front f l))) F.sign ∙ ap (read 0) F.rest

        close : Near t v
        close = subst (Near t) (sym size) (near_zero (drop m l))

        low : 2 ^ 31 + m ≤ 2 ^ 32
        low = omega (arith, minus_most f l)

        plain-same : plain f (front f l) ≡ tidy b (numeral f l)
        plain-same =
            ap (λ (k : ℕ). tidy (get_or (drop k (front f l)) 0 0) (length (front f l))) F.sign ∙ ap (λ (k : ℕ). tidy k (length (front f l))) F.first
            ∙ ap (λ (k : ℕ). tidy b k) F.long

        fits-same : fits f (front f l) ≡ ltb t (2 ^ 31 + m)
        fits-same = ap (λ (k : ℕ). ltb v (2 ^ 31 + k)) F.sign ∙ sym (near_test t v (2 ^ 31 + m) close low)

        same : good f l ≡ (tidy b (numeral f l) && ltb t (2 ^ 31 + m))
        same = λ i. plain-same i && fits-same i

        value_same : value_of f (front f l) ≡ cond (eqb m 1) (2 ^ 32 - v) v
        value_same = ap (λ (k : ℕ). cond (eqb k 1) (2 ^ 32 - v) v) F.sign

        both : cond (tidy b (numeral f l) && ltb t (2 ^ 31 + m)) (Some (cond (eqb m 1) (2 ^ 32 - t) t)) None ≡ value_at f l
        both =
            values (tidy b (numeral f l) && ltb t (2 ^ 31 + m))
            (λ g. near_same t v (2 ^ 31 + m) close low (ltb→lt t (2 ^ 31 + m) (and_right (tidy b (numeral f l)) _ (holds _ g))))
            ∙ (λ i. cond (sym same i) (Some (sym value_same i)) None)

-- ---- the reader's paths

abbrev pub num : ℕ → Option ℕ → Result Number ℕ
num e v = Ok (record { end = e; value = v })

-- no leading zero, no minus on zero, and 32 bits with its sign
abbrev pub fine : ℕ → List ℕ → ℕ → Digits → Bool
fine from s sign d = tidy (get_or s (from + sign) 0) (d.end - from) && ltb d.value (2 ^ 31 + sign)

module _ (f from : ℕ) (s : List ℕ) (sign : ℕ) (d : Digits) (es : sign ≡ minus f (drop from s)) (ed : d ≡ digits_at (from + sign) (drop (from + sign) s)) where
  end_is : d.end ≡ from + sign + run (drop (from + sign) s)
  end_is = ap (λ (d : Digits). d.end) ed

  value-is : d.value ≡ tally 0 (drop (from + sign) s)
  value-is = ap (λ (d : Digits). d.value) ed

  whole : held from sign (d.end - (from + sign)) d.value (get_or s (from + sign) 0) ≡ number_at f from (drop from s)
  whole =
      let r : d.end - (from + sign) ≡ run (drop (from + sign) s) = omega (arith, end_is) in
      let b : get_or s (from + sign) 0 ≡ get_or (drop (from + sign) s) 0 0 = sym (get_or-drop (from + sign) s 0 0 ∙ ap (λ (k : ℕ). get_or s k 0) (add-zero (from + sign))) in
      let e : drop (from + sign) s ≡ drop (minus f (drop from s)) (drop from s) = sym (drop-drop sign from s) ∙ ap (λ (k : ℕ). drop k (drop from s)) es in
      (λ i. held from (es i) (r i) (value-is i) (b i)) ∙ ap (λ (l : List ℕ). held from (minus f (drop from s)) (run l) (tally 0 l) (get_or l 0 0)) e ∙ number_held f from (drop from s)

  module _ (some : d.end ≡ from + sign → ⊥) where
    r : ℕ
    r = d.end - (from + sign)

    b : ℕ
    b = get_or s (from + sign) 0

    any : ltb sign (sign + r) ≡ true
    unfolding r
    any = lt-ltb sign (sign + r) (omega (arith, end_is))

    k : from + (sign + r) ≡ d.end
    unfolding r
    k = omega (arith, end_is)

    n : sign + r ≡ d.end - from
    unfolding r
    n = omega (arith, end_is)

    by : (g : Bool) → fine from s sign d ≡ g → num d.end (cond g (Some (cond (eqb sign 1) (2 ^ 32 - d.value) d.value)) None) ≡ number_at f from (drop from s)
    unfolding r b
    by g e = sym (ap (λ (g : Bool). num d.end (cond g (Some (cond (eqb sign 1) (2 ^ 32 - d.value) d.value)) None)) e) ∙ sym bare ∙ whole
      where
        bare : held from sign (d.end - (from + sign)) d.value (get_or s (from + sign) 0) ≡ num d.end (cond (fine from s sign d) (Some (cond (eqb sign 1) (2 ^ 32 - d.value) d.value)) None)
        bare = λ i. cond (any i) (num (k i) (cond (tidy b (n i) && ltb d.value (2 ^ 31 + sign)) (Some (cond (eqb sign 1) (2 ^ 32 - d.value) d.value)) None)) (Err (k i))

    pub bad : fine from s sign d ≡ false → num d.end None ≡ number_at f from (drop from s)
    bad e = by false e

    module _ (e : fine from s sign d ≡ true) where
      pub small : d.value < 2 ^ 31 + sign
      small = ltb→lt d.value (2 ^ 31 + sign) (and_right (tidy (get_or s (from + sign) 0) (d.end - from)) _ (holds _ e))

      pub negative : sign ≡ 1 → num d.end (Some (2 ^ 32 - d.value)) ≡ number_at f from (drop from s)
      negative q = ap (λ (t : Bool). num d.end (Some (cond t (2 ^ 32 - d.value) d.value))) (sym (eq-eqb sign 1 q)) ∙ by true e

      pub bare : (sign ≡ 1 → ⊥) → num d.end (Some d.value) ≡ number_at f from (drop from s)
      bare q = ap (λ (t : Bool). num d.end (Some (cond t (2 ^ 32 - d.value) d.value))) (sym (ne_eqb sign 1 q)) ∙ by true e

      -- a number with a minus is not 0
      pub value_pos : sign ≡ 1 → 0 < d.value
      value_pos q =
          rw value-is
          (tally-pos (drop (from + sign) s) (omega (arith, end_is, some))
          (λ z. let x : get_or s (from + sign) 0 ≡ 48 = sym (first_of s (from + sign)) ∙ z in
          let t = is_true _ (and_left (tidy (get_or s (from + sign) 0) (d.end - from)) _ (holds _ e)) in
          let n : d.end - from ≡ 1 = eqb-true (d.end - from) 1 (sym (ap (λ (t : Bool). not t || eqb (d.end - from) 1) (eq-eqb (get_or s (from + sign) 0) 48 x)) ∙ t) in
          omega (arith, end_is, some)))
