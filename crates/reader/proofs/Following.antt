-- Along the line of a sample.
use Rattle.std.specs.Prelude.{Ok}
use Rattle.reader.specs.declared.Cursor.{Cursor}
use mathlib.Core.Path.{◌≡◌, refl, ap, sym, ◌∙◌}
use mathlib.Core.List.{List, [], ◌∷◌}
use mathlib.Core.Bool.{Bool, true, false, cond}
use Prim.Native.Nat.{ℕ, suc, ◌+◌, ◌-◌, ◌≤◌, ◌<◌}
use native.Mathlib.Omega.{arith}
use native.Mathlib.Numerals.{add-one}
use lib.Dec.{eqb, ltb}
use lib.ListN.{length, get_or, drop, drop_of_length-le, length-drop}
use lib.Seq.{drop-cons}
use borrow.Author.Tests.{ltb-true}
use Rattle.assembly.specs.Lines.{Piece, byte, field, piece_of, minus, word}
use Rattle.assembly.specs.Scanner.{numeral}
use Rattle.assembly.proofs.Runs.{read_number}
use Rattle.reader.specs.declared.Fields.{Fields}
use Rattle.numerals.specs.Numbers.{front}
use Rattle.text.specs.Samples.{sample_line}
use Rattle.reader.specs.Reading.{At, Stuck, Read, no_fields, taken, over_piece, along}

-- ---- along it

pub stays : (k : ℕ) (q s : List ℕ) (n : ℕ) → along k q s (Stuck n) ≡ Stuck n
unfolding along
stays k [] s n = refl
stays k (b ∷ q) s n = stays k q s n

module _ (k j at : ℕ) (s : List ℕ) (x : Fields) where
  along_cons : (b : ℕ) (q : List ℕ) → along k (b ∷ q) s (At at x) ≡ along k q s (over_piece k (piece_of b) (drop at s) at x)
  unfolding along
  along_cons b q = refl

  along_nil : At at x ≡ along k [] s (At at x)
  unfolding along
  along_nil = refl

  module _ (line : List ℕ) (e : line ≡ sample_line k) where
    pub over-here : length line ≤ j → At at x ≡ along k (drop j (sample_line k)) s (At at x)
    over-here h = along_nil ∙ ap (λ (q : List ℕ). along k q s (At at x)) (sym (drop_of_length-le line h) ∙ ap (drop j) e)

    line_on : j < length line → drop j (sample_line k) ≡ get_or line j 0 ∷ drop (j + 1) (sample_line k)
    line_on h = rw (← e, add-one j) (drop-cons line j 0 h)

    one_more : j < length line → (r : Read) → r ≡ over_piece k (piece_of (get_or line j 0)) (drop at s) at x
        → along k (drop j (sample_line k)) s (At at x) ≡ along k (drop (j + 1) (sample_line k)) s r
    one_more h r q =
        ap (λ (q : List ℕ). along k q s (At at x)) (line_on h) ∙ along_cons (get_or line j 0) (drop (j + 1) (sample_line k))
        ∙ ap (along k (drop (j + 1) (sample_line k)) s) (sym q)

-- ---- the place stays within the text

place : {n m : ℕ} {x y : Fields} → At n x ≡ At m y → n ≡ m
place {n} {m} {x} {y} e =
    let z : ◌≡◌ {A = Cursor} (record { at = n; fields = x }) (record { at = m; fields = y }) = cc in
    ap (λ (c : Cursor). c.at) z

within : (k at : ℕ) (p : Piece) (s : List ℕ) (x : Fields) (n : ℕ) (y : Fields) → at ≤ length s → At n y ≡ over_piece k p (drop at s) at x → n ≤ length s
unfolding over_piece
within k at (byte b) s x n y h e = go (drop at s) (length-drop at s) e
  where
    test : (l : List ℕ) → suc (length l) + at ≤ length s → (t : Bool) → At n y ≡ cond t (At (at + 1) x) (Stuck at) → n ≤ length s
    test l g true e =
        let z : n ≡ at + 1 = place e in
        omega arith
    test l g false e =
        let z : ◌≡◌ {A = ℕ} 0 1 = cc in
        absurd (omega arith)

    go : (l : List ℕ) → length l ≡ length s - at → At n y ≡ over_piece k (byte b) l at x → n ≤ length s
    go [] d e =
        let z : ◌≡◌ {A = ℕ} 0 1 = cc in
        absurd (omega arith)
    go (c ∷ l) d e = test l (omega arith) (eqb c b) e
within k at (field f) s x n y h e = test (ltb (minus f (drop at s)) (numeral f (drop at s))) refl e
  where
    l : List ℕ
    l = drop at s

    test : (t : Bool) → ltb (minus f l) (numeral f l) ≡ t → At n y ≡ cond t (At (at + numeral f l) (taken k (word f at (front f l)) x)) (Stuck (at + numeral f l)) → n ≤ length s
    test true q e =
        let z : n ≡ at + numeral f l = place e in
        let r = read_number f l (ltb-true (minus f l) (numeral f l) q) in
        omega (arith, length-drop at s, r.1)
    test false q e =
        let z : ◌≡◌ {A = ℕ} 0 1 = cc in
        absurd (omega arith)

-- ---- one piece on

-- from here along the rest of the sample is the whole way along it
abbrev pub Along : ℕ → ℕ → List ℕ → ℕ → Cursor → Type 0
Along k from s j c = (c.at ≤ length s) × (along k (drop j (sample_line k)) s (Ok c) ≡ along k (sample_line k) s (At from no_fields))

module _ (k from j : ℕ) (s : List ℕ) (c : Cursor) (so_far : Along k from s j c) (line : List ℕ) (e : line ≡ sample_line k) (h : j < length line) where
  pub goes_on : (d : Cursor) → Ok d ≡ over_piece k (piece_of (get_or line j 0)) (drop c.at s) c.at c.fields → Along k from s (j + 1) d
  goes_on d q = (
    within k c.at (piece_of (get_or line j 0)) s c.fields d.at d.fields so_far.0 q,
    sym (one_more k j c.at s c.fields line e h (Ok d) q) ∙ so_far.1,
  )

  pub stops : (n : ℕ) → Stuck n ≡ over_piece k (piece_of (get_or line j 0)) (drop c.at s) c.at c.fields → Stuck n ≡ along k (sample_line k) s (At from no_fields)
  stops n q = sym (stays k (drop (j + 1) (sample_line k)) s n) ∙ sym (one_more k j c.at s c.fields line e h (Stuck n) q) ∙ so_far.1
