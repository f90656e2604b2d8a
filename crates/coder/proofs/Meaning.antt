-- What the coder finds is what the definition says.
use mathlib.Core.Logic.{inl, inr}
use mathlib.Core.Path.{◌≡◌, refl, ap, sym, ◌∙◌, subst}
use mathlib.Core.List.{List, [], ◌∷◌}
use mathlib.Core.Bool.{Bool, true, false, cond}
use Prim.Native.Nat.{ℕ, ◌≤◌}
use native.Mathlib.Omega.{arith}
use native.Mathlib.Nat.{mod-eq_of_lt}
use lib.Dec.{T, eqb, ltb, ltb→lt}
use lib.ListN.{length, drop}
use Rattle.answers.specs.declared.Refusal.TheVariants as R
use Rattle.word.specs.Bits.{low}
use Rattle.word.proofs.Bools.{is_true}
use Rattle.isa.specs.declared.Inst.{Inst}
use Rattle.isa.specs.Operations.{parts}
use Rattle.isa.specs.Building.{built}
use Rattle.isa.specs.Encoding.{in_range, word_of, encoded}
use Rattle.isa.specs.Shortening.{shortened}
use Rattle.assembly.specs.Lines as L
use Rattle.assembly.specs.Scanner.{line_at}
use Rattle.assembly.specs.Scanner as S
use Rattle.assembly.specs.Numbers.{value_of, allowed, Checked, right, wrong, checked, after, value}
use Rattle.assembly.specs.Assembly.{instruction, faulty, half_of, code_of, unless_wrong, meaning_of, meaning}
use Rattle.assembly.proofs.Places.{read-line}
use Rattle.assembly.proofs.Only.{its, all-allowed, value_small}
use Rattle.reader.specs.declared.Fields.{Fields}
use Rattle.reader.specs.Reading.{fields, no_fields, put, fault, taken}
use Rattle.reader.specs.Line.{Line, Reads, Unreadable, taken_all, first_line, Same}
use Rattle.reader.proofs.Telling.{told}
use Rattle.std.specs.Option.{option_or}
use Rattle.coder.specs.Coding.{Coded, unless_wrong_at, inst_read, halved, worded, coded_line, code_line, meant, CodedWithin}
use Rattle.isa.specs.declared.Unshortened.TheVariants as U
use Rattle.isa.specs.declared.Unshortened.{Unshortened}
use Rattle.std.specs.Prelude.{Err, None, Ok, Option, Result, Some}

-- ---- the fields after the numbers of a line

Faulty : Fields → ℕ → Type 0
Faulty x p = x.wrong ≡ Some p

-- the leftmost wrong number stays
faulty_stays : (k : ℕ) (ws : List L.Word) (x : Fields) (p : ℕ) → Faulty x p → Faulty (taken_all k ws x) p
unfolding taken_all Faulty
faulty_stays k [] x p h = h
faulty_stays k (w ∷ ws) x p h = faulty_stays k ws (taken k w x) p (go (allowed k w))
  where
    go : (t : Bool) → Faulty (cond t (put w.of (value_of w.of w.digits) x) (fault w.place x)) p
    go true = h
    go false = ap (λ (o : Option ℕ). option_or o (Some w.place)) h

-- what the numbers say
Told : Checked → Fields → Fields → Type 0
Told right x y = x ≡ y
Told (wrong p) x y = Faulty x p

fields_told : (k : ℕ) (ws : List L.Word) (d s t v : ℕ)
    → Told (checked k ws) (taken_all k ws (fields d s t v None)) (fields (after 1 d ws) (after 2 s ws) (after 3 t ws) (after 4 v ws) None)
unfolding taken_all checked after Told Faulty
fields_told k [] d s t v = refl
fields_told k (w ∷ ws) d s t v = go (allowed k w) (λ d s t v. fields_told k ws d s t v)
  where
    f : ℕ
    f = w.of

    u : ℕ
    u = value_of w.of w.digits

    go : (b : Bool) → ((d s t v : ℕ) → Told (checked k ws) (taken_all k ws (fields d s t v None)) (fields (after 1 d ws) (after 2 s ws) (after 3 t ws) (after 4 v ws) None))
        → Told (cond b (checked k ws) (wrong w.place)) (taken_all k ws (cond b (put f u (fields d s t v None)) (fault w.place (fields d s t v None))))
        (fields (after 1 (cond (eqb 1 f) u d) ws) (after 2 (cond (eqb 2 f) u s) ws) (after 3 (cond (eqb 3 f) u t) ws) (after 4 (cond (eqb 4 f) u v) ws) None)
    go true ih = ih (cond (eqb 1 f) u d) (cond (eqb 2 f) u s) (cond (eqb 3 f) u t) (cond (eqb 4 f) u v)
    go false ih = faulty_stays k ws (fields d s t v (Some w.place)) w.place refl

-- ---- the code

half-meant : (s : List ℕ) (n : ℕ) (h : Result ℕ Unshortened) → meant s (halved h n) ≡ half_of h (drop n s)
half-meant s n (Ok h) = refl
half-meant s n (Err U.OutOfRange) = refl
half-meant s n (Err U.NoShortForm) = refl

half-within : (l n : ℕ) (h : Result ℕ Unshortened) → n ≤ l → CodedWithin l (halved h n)
half-within l n (Ok h) m = (inr refl, m)
half-within l n (Err U.OutOfRange) m = tt
half-within l n (Err U.NoShortForm) m = tt

word-within : (l n : ℕ) (w : Option ℕ) → n ≤ l → CodedWithin l (worded w n)
word-within l n (Some w) m = (inl refl, m)
word-within l n None m = tt

-- ---- a line that the reader finds

record Found (s : List ℕ) (c : Bool) (k : ℕ) (x : Fields) (n : ℕ) : Type 0 where
  numbers : List L.Word
  line : line_at s ≡ S.reads c k numbers (drop n s)
  holds : x ≡ taken_all k numbers no_fields
  within : n ≤ length s

found : (s : List ℕ) (c : Bool) (k : ℕ) (x : Fields) (n : ℕ) → Reads c k x n ≡ first_line s → Found s c k x n
found s c k x n e = go (line_at s) refl (subst (λ (l : Line). Same s l (line_at s)) (sym e) (told s))
  where
    go : (b : S.Line) → line_at s ≡ b → Same s (Reads c k x n) b → Found s c k x n
    go (S.unreadable m) q h = absurd h
    go (S.reads d j ws rest) q h =
        record {
          numbers = ws;
          line = q ∙ (λ i. S.reads (sym h.0 i) (sym h.1 i) ws (h.3 i));
          holds = h.2 ∙ ap (λ (k : ℕ). taken_all k ws no_fields) (sym h.1);
          within = h.4;
        }

unread : (s : List ℕ) (p : ℕ) → Unreadable p ≡ first_line s → faulty R.Unreadable p ≡ meaning s
unread s p e = go (line_at s) refl (subst (λ (l : Line). Same s l (line_at s)) (sym e) (told s))
  where
    go : (b : S.Line) → line_at s ≡ b → Same s (Unreadable p) b → faulty R.Unreadable p ≡ meaning s
    go (S.unreadable m) q h = ap (faulty R.Unreadable) h ∙ sym (ap meaning_of q)
    go (S.reads d j ws rest) q h = absurd h

module _ (s : List ℕ) (c : Bool) (k : ℕ) (x : Fields) (n : ℕ) (e : Reads c k x n ≡ first_line s) where
  f : Found s c k x n
  f = found s c k x n e

  ws : List L.Word
  ws = f.numbers

  reading : meaning s ≡ unless_wrong (checked k ws) (code_of c (instruction k ws) (drop n s))
  unfolding ws
  reading = ap meaning_of f.line

  told-fields : Told (checked k ws) x (fields (value 1 ws) (value 2 ws) (value 3 ws) (value 4 ws) None)
  unfolding ws
  told-fields = subst (λ (x : Fields). Told (checked k ws) x (fields (value 1 ws) (value 2 ws) (value 3 ws) (value 4 ws) None)) (sym f.holds) (fields_told k ws 0 0 0 0)

  wrong-line : (p : ℕ) → x.wrong ≡ Some p → faulty R.NumberNotAllowed p ≡ meaning s
  unfolding Told Faulty
  wrong-line p w = go (checked k ws) refl told-fields
    where
      go : (t : Checked) → checked k ws ≡ t → Told t x (fields (value 1 ws) (value 2 ws) (value 3 ws) (value 4 ws) None) → faulty R.NumberNotAllowed p ≡ meaning s
      go right q h =
          let z : Some p ≡ None = sym w ∙ ap (λ (x : Fields). x.wrong) h in
          let y : ◌≡◌ {A = ℕ} 0 1 = cc in
          absurd (omega arith)
      go (wrong o) q h =
          let z : Some p ≡ Some o = sym w ∙ h in
          let y : p ≡ o = cc in
          ap (faulty R.NumberNotAllowed) y ∙ sym (reading ∙ ap (λ (t : Checked). unless_wrong t (code_of c (instruction k ws) (drop n s))) q)

  small : (v : ℕ) → T (ltb v 32) → low 5 v ≡ v
  small v t = mod-eq_of_lt (ltb→lt v 32 t)

  -- the instruction is in range, and its code is meant
  right-line : x.wrong ≡ None → (in_range (inst_read k x) ≡ true) × (code_of c (inst_read k x) (drop n s) ≡ meaning s)
  unfolding Told Faulty instruction ws
  right-line w = go (checked k ws) refl told-fields
    where
      go : (t : Checked) → checked k ws ≡ t → Told t x (fields (value 1 ws) (value 2 ws) (value 3 ws) (value 4 ws) None)
          → (in_range (inst_read k x) ≡ true) × (code_of c (inst_read k x) (drop n s) ≡ meaning s)
      go (wrong p) q h =
          let z : Some p ≡ None = sym h ∙ w in
          let y : ◌≡◌ {A = ℕ} 0 1 = cc in
          absurd (omega arith)
      go right q h =
          let l = read-line s c k ws (drop n s) f.line in
          let a = all-allowed k ws q in
          let t = its c k ws l.line l.known l.spelled q in
          let same : inst_read k x ≡ instruction k ws = ap (inst_read k) h ∙ (λ i. built (parts k (small (value 1 ws) (value_small l.spelled k 1 refl a) i) (small (value 2 ws) (value_small l.spelled k 2 refl a) i) (small (value 3 ws) (value_small l.spelled k 3 refl a) i) (value 4 ws))) in (
            ap in_range same ∙ is_true _ t.ranged,
            ap (λ (i : Inst). code_of c i (drop n s)) same ∙ sym (reading ∙ ap (λ (t : Checked). unless_wrong t (code_of c (instruction k ws) (drop n s))) q),
          )

  -- the code that it has is meant, and it ends within the text
  Meant : Coded → Type 0
  Meant r = (meant s r ≡ meaning s) × CodedWithin (length s) r

  right-meant : x.wrong ≡ None → (b : Bool) → c ≡ b → Meant (cond b (halved (shortened (inst_read k x)) n) (worded (encoded (inst_read k x)) n))
  unfolding Meant
  right-meant w true t = (
    half-meant s n (shortened (inst_read k x)) ∙ sym (ap (λ (c : Bool). code_of c (inst_read k x) (drop n s)) t) ∙ (right-line w).1,
    half-within (length s) n (shortened (inst_read k x)) f.within,
  )
  right-meant w false t = (
    ap (λ (b : Bool). meant s (worded (cond b (Some (word_of (inst_read k x))) None) n)) (right-line w).0
        ∙ sym (ap (λ (c : Bool). code_of c (inst_read k x) (drop n s)) t) ∙ (right-line w).1,
    word-within (length s) n (encoded (inst_read k x)) f.within,
  )

  read-meant : (o : Option ℕ) → x.wrong ≡ o
      → Meant (unless_wrong_at o (cond c (halved (shortened (inst_read k x)) n) (worded (encoded (inst_read k x)) n)))
  unfolding Meant
  read-meant (Some p) w = (wrong-line p w, tt)
  read-meant None w = right-meant w c refl

-- the code of the first line
pub line-meant : (s : List ℕ) (r : Coded) → r ≡ code_line s → (meant s r ≡ meaning s) × CodedWithin (length s) r
unfolding Meant
line-meant s r e = subst (λ (r : Coded). (meant s r ≡ meaning s) × CodedWithin (length s) r) (sym e) (go (first_line s) refl)
  where
    go : (l : Line) → l ≡ first_line s → (meant s (coded_line l) ≡ meaning s) × CodedWithin (length s) (coded_line l)
    go (Err p) q = (unread s p q, tt)
    go (Ok l) q = read-meant s l.short l.operation l.fields l.end q l.fields.wrong refl
