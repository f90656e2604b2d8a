-- Digits, one after another.
use Rattle.std.proofs.Common.{◌≡◌, ℕ, suc, ◌+◌, ◌-◌, ◌*◌, ◌^◌, ◌<◌, ◌≤◌, Bool, true, false, cond, ◌&&◌, eqb, ltb, leb, List, [], ◌∷◌, length, get_or, take, drop, sym, refl, ap, ◌∙◌, ⊎_elim, add-zero, add-one, arith, length-drop, drop_of_length-le, get_or-drop, drop-cons, ne_eqb, leb-true}
use Rattle.std.proofs.Common.{Option, Some, None, eqb-true}
use Rattle.std.proofs.lemmas.Bool.{eqb-false}
use lib.Seq.{take_all}
use Rattle.word.proofs.Bools.{below}
use Rattle.assembly.specs.Lines.{byte, field, is_digit, minus}
use Rattle.assembly.specs.Scanner.{run}
use Rattle.assembly.proofs.Runs.{run-within}
use Rattle.numerals.specs.declared.Digits.{Digits}
use Rattle.numerals.specs.declared.Field.{Field}
use Rattle.numerals.specs.declared.Field.TheVariants.{Rd, Rs1, Rs2, Imm}
use Rattle.numerals.specs.Numbers.{grown, tally, digits_on, digits_at, field_in, Fielded}

abbrev pub dig : ℕ → ℕ → Digits
dig e v = record { end = e; value = v }

dig_eq : {a b c d : ℕ} → a ≡ b → c ≡ d → dig a c ≡ dig b d
dig_eq p q = λ i. dig (p i) (q i)

digit_on : (at v b : ℕ) (l : List ℕ) → is_digit b ≡ true → digits_on at v (b ∷ l) ≡ digits_on (at + 1) (grown v b) l
unfolding run tally
digit_on at v b l h = rw h (dig_eq (omega arith) refl)

digit-stop : (at v b : ℕ) (l : List ℕ) → (is_digit b) ≡ false → dig at v ≡ digits_on at v (b ∷ l)
unfolding run tally
digit-stop at v b l h = rw h (dig_eq (omega arith) refl)

digit-end : (at v : ℕ) → dig at v ≡ digits_on at v []
unfolding run tally
digit-end at v = dig_eq (omega arith) refl

module _ (s : List ℕ) (at v : ℕ) where
  ahead : at < length s → drop at s ≡ get_or s at 0 ∷ drop (at + 1) s
  ahead h = rw (add-one at) (drop-cons s at 0 h)

  pub on_more : at < length s → is_digit (get_or s at 0) ≡ true → digits_on at v (drop at s) ≡ digits_on (at + 1) (grown v (get_or s at 0)) (drop (at + 1) s)
  on_more h d = ap (digits_on at v) (ahead h) ∙ digit_on at v (get_or s at 0) (drop (at + 1) s) d

  pub on_other : at < length s → is_digit (get_or s at 0) ≡ false → dig at v ≡ digits_on at v (drop at s)
  on_other h d = digit-stop at v (get_or s at 0) (drop (at + 1) s) d ∙ sym (ap (digits_on at v) (ahead h))

  pub on_end : length s ≤ at → dig at v ≡ digits_on at v (drop at s)
  on_end h = digit-end at v ∙ sym (ap (digits_on at v) (drop_of_length-le s h))

-- ---- the bytes from a place on, as a loop over them has them

module _ (s : List ℕ) (from i : ℕ) (h : from ≤ length s) where
  abbrev pub items : List ℕ
  items = take (length s - from) (drop from s)

  all-items : items ≡ drop from s
  all-items = take_all (length s - from) (drop from s) (omega (arith, length-drop from s))

  pub items-long : from + length items ≡ length s
  items-long = omega (arith, ap length all-items, length-drop from s)

  module _ (at : ℕ) (e : at ≡ from + i) where
    pub item-is : get_or items i 0 ≡ get_or s at 0
    item-is = ap (λ (l : List ℕ). get_or l i 0) all-items ∙ get_or-drop from s i 0 ∙ ap (λ (k : ℕ). get_or s k 0) (sym e)

    pub digit-told : (t : Bool) → t ≡ is_digit (get_or items i 0) → is_digit (get_or s at 0) ≡ t
    digit-told t q = sym (ap is_digit item-is) ∙ sym q

-- ---- the minus sign

no_sign : (f : ℕ) (l : List ℕ) → (get_or l 0 0 ≡ 45 → ⊥) → 0 ≡ minus f l
no_sign f l h = rw (ne_eqb (get_or l 0 0) 45 h) (go (eqb f 4))
  where
    go : (t : Bool) → ◌≡◌ {A = ℕ} 0 (cond (t && false) 1 0)
    go true = refl
    go false = refl

pub first_of : (s : List ℕ) (at : ℕ) → get_or (drop at s) 0 0 ≡ get_or s at 0
first_of s at = get_or-drop at s 0 0 ∙ ap (λ (k : ℕ). get_or s k 0) (add-zero at)

pub minus_past : (f : ℕ) (s : List ℕ) (at : ℕ) → length s ≤ at → 0 ≡ minus f (drop at s)
minus_past f s at h = no_sign f (drop at s) (rw (drop_of_length-le s h) (λ e. omega arith))

pub sign_within : (f from : ℕ) (s : List ℕ) → from ≤ length s → (from + minus f (drop from s) ≤ length s) × (minus f (drop from s) ≤ 1)
sign_within f from s h = ⊎_elim (λ (l : from < length s). go l (eqb f 4 && eqb (get_or (drop from s) 0 0) 45)) (λ (l : length s ≤ from). rw (← minus_past f s from l) (omega arith, omega arith)) (below from (length s))
  where
    go : from < length s → (t : Bool) → (from + cond t 1 0 ≤ length s) × (cond t 1 0 ≤ 1)
    go l true = (omega arith, omega arith)
    go l false = (omega arith, omega arith)

-- ---- the digits read lie in the text

pub digits-within : (s : List ℕ) (at : ℕ) (d : Digits) → d ≡ digits_at at (drop at s) → at ≤ length s → (at ≤ d.end) × (d.end ≤ length s)
digits-within s at d e h =
    let q : d.end ≡ at + run (drop at s) = ap (λ (d : Digits). d.end) e in
    (omega (arith, q), omega (arith, q, run-within (drop at s), length-drop at s))

tally_up : (v : ℕ) (l : List ℕ) → v ≤ tally v l
unfolding tally
tally_up v [] = omega arith
tally_up v (b ∷ l) = go (tally_up (grown v b) l) (is_digit b)
  where
    up : (t : Bool) → v ≤ cond t (v * 10 + (b - 48)) v
    up true = omega arith
    up false = omega arith

    go : grown v b ≤ tally (grown v b) l → (t : Bool) → v ≤ cond t (tally (grown v b) l) v
    go h true = omega (arith, up (ltb v (2 ^ 32)))
    go h false = omega arith

-- a number that does not begin with 0 is not 0
pub tally-pos : (l : List ℕ) → 0 < run l → (get_or l 0 0 ≡ 48 → ⊥) → 0 < tally 0 l
unfolding run tally
tally-pos [] h n = absurd (omega arith)
tally-pos (b ∷ l) h n = go (leb 48 b) (leb b 57) refl h
  where
    go : (t u : Bool) → leb 48 b ≡ t → 0 < cond (t && u) (suc (run l)) 0 → 0 < cond (t && u) (tally (grown 0 b) l) 0
    go true true e h = omega (arith, tally_up (grown 0 b) l, leb-true 48 b e, n)
    go true false e h = absurd (omega arith)
    go false u e h = absurd (omega arith)

-- ---- the fields of a sample line

-- the field of a byte says what its piece is
pub fielded : (b : ℕ) → Fielded b (field_in b)
fielded b = one (eqb b 49) refl
  where
    four : Bool → Option Field
    four t = cond t (Some Imm) None

    three : Bool → Option Field
    three t = cond t (Some Rs2) (four (eqb b 52))

    two : Bool → Option Field
    two t = cond t (Some Rs1) (three (eqb b 51))

    other : eqb b 49 ≡ false → eqb b 50 ≡ false → eqb b 51 ≡ false → (t : Bool) → eqb b 52 ≡ t → Fielded b (four t)
    other n o p true e = rw (eqb-true b 52 e) refl
    other n o p false e = go (leb 49 b) (leb b 52) refl refl
      where
        go : (t u : Bool) → leb 49 b ≡ t → leb b 52 ≡ u → cond (t && u) (field (b - 48)) (byte b) ≡ byte b
        go true true g h = absurd (omega (arith, leb-true 49 b g, leb-true b 52 h, eqb-false b 49 n, eqb-false b 50 o, eqb-false b 51 p, eqb-false b 52 e))
        go true false g h = refl
        go false u g h = refl

    third : eqb b 49 ≡ false → eqb b 50 ≡ false → (t : Bool) → eqb b 51 ≡ t → Fielded b (three t)
    third n o true e = rw (eqb-true b 51 e) refl
    third n o false e = other n o e (eqb b 52) refl

    second : eqb b 49 ≡ false → (t : Bool) → eqb b 50 ≡ t → Fielded b (two t)
    second n true e = rw (eqb-true b 50 e) refl
    second n false e = third n e (eqb b 51) refl

    one : (t : Bool) → eqb b 49 ≡ t → Fielded b (cond t (Some Rd) (two (eqb b 50)))
    one true e = rw (eqb-true b 49 e) refl
    one false e = second e (eqb b 50) refl
