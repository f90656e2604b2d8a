-- No second spelling: a readable line whose numbers are all allowed is the text of the instruction that it gives.
use mathlib.Core.Path.{◌≡◌, refl, ap, sym, ◌∙◌, subst}
use mathlib.Core.List.{List, [], ◌∷◌, ◌++◌, append_assoc}
use mathlib.Core.Bool.{Bool, true, false, cond, ◌&&◌, ◌||◌, not}
use Prim.Native.Nat.{ℕ, ◌≤◌, ◌<◌}
use native.Mathlib.Omega.{arith}
use lib.Dec.{T, T_not, eqb, leb, ltb, leb→le}
use borrow.Author.Tests.{eqb-true, eqb-false, eq-eqb, ne_eqb}
use Rattle.word.proofs.Bools.{and_left, and_right, and_both, is_true, is_false, holds}
use Rattle.isa.specs.declared.Inst.{Inst}
use Rattle.isa.specs.declared.Parts.{Parts}
use Rattle.isa.specs.Operations.{parts, parts_of}
use Rattle.isa.specs.Building.{built, registers_ok}
use Rattle.isa.specs.Encoding.{in_range}
use Rattle.isa.specs.Shortening.{shortened}
use Rattle.assembly.specs.Lines.{Piece, byte, field, shape, Word, Spelled, end, same, number}
use Rattle.assembly.specs.Scanner.{Line, reads, unreadable, line_at}
use Rattle.assembly.specs.Numbers.{value_of, plain, fits, holds_imm, allowed, Checked, right, wrong, checked, after, value}
use Rattle.assembly.specs.Assembly.{instruction, gives, half_of, code_of, unless_wrong, meaning_of, meaning}
use Rattle.assembly.proofs.Numerals.{shown_forth}
use Rattle.assembly.proofs.Places.{read-line}
use Rattle.assembly.proofs.Forms.{still, still_is, range_is, env, rendered, text_for, text_rendered, has, kept, once, all_once, no_imm}
use Rattle.isa.specs.declared.Unshortened.TheVariants as U
use Rattle.isa.specs.declared.Unshortened.{Unshortened}
use Rattle.std.specs.Prelude.{Err, Ok, Result}

-- ---- all numbers are allowed

abbrev pub Allowed : ℕ → List Word → Type 0
Allowed k [] = Unit {0}
Allowed k (w ∷ ws) = T (allowed k w) × Allowed k ws

pub all-allowed : (k : ℕ) (ws : List Word) → checked k ws ≡ right → Allowed k ws
unfolding checked
all-allowed k [] e = tt
all-allowed k (w ∷ ws) e = go (all-allowed k ws) (allowed k w) refl e
  where
    go : (checked k ws ≡ right → Allowed k ws) → (t : Bool) → allowed k w ≡ t → cond t (checked k ws) (wrong w.place) ≡ right → T (allowed k w) × Allowed k ws
    go ih true q e = (holds _ q, ih e)
    go ih false q e =
        let z : ◌≡◌ {A = ℕ} 0 1 = cc in
        absurd (omega arith)

-- ---- the value of a field

-- a field that the shape has not
after_none : {s : List Piece} {n : ℕ} {ws : List Word} {l : List ℕ} → Spelled s n ws l → (f v : ℕ) → has f s ≡ false → after f v ws ≡ v
unfolding after
after_none end f v h = refl
after_none (same r) f v h = after_none r f v h
after_none (number {f = g} {s = s} {ws = ws} a x r) f v h = go (λ q. after_none r f v q) (eqb f g) h
  where
    go : (has f s ≡ false → after f v ws ≡ v) → (t : Bool) → cond t true (has f s) ≡ false → after f (cond t (value_of g a) v) ws ≡ v
    go ih true e =
        let z : ◌≡◌ {A = ℕ} 0 1 = cc in
        absurd (omega arith)
    go ih false e = ih e

-- what an allowed word says of its value
abbrev Says : ℕ → ℕ → ℕ → Type 0
Says k f v = T (cond (eqb f 4) (holds_imm k v) (ltb v 32))

-- .. which a field keeps
after_says : (k f v : ℕ) (ws : List Word) → Says k f v → Allowed k ws → Says k f (after f v ws)
unfolding after
after_says k f v [] t a = t
after_says k f v (w ∷ ws) t a = after_says k f (cond (eqb f w.of) (value_of w.of w.digits) v) ws (go (eqb f w.of) refl) a.1
  where
    go : (b : Bool) → eqb f w.of ≡ b → Says k f (cond b (value_of w.of w.digits) v)
    go true q = rw (eqb-true f w.of q) (and_right (fits w.of w.digits) _ (and_right (plain w.of w.digits) _ a.0))
    go false q = t

-- .. and one of the shape has
value_says : {s : List Piece} {n : ℕ} {ws : List Word} {l : List ℕ} → Spelled s n ws l → (k f v : ℕ) → T (has f s) → Allowed k ws → Says k f (after f v ws)
unfolding after
value_says end k f v h a = absurd h
value_says (same r) k f v h a = value_says r k f v h a
value_says (number {f = g} {n = n} {s = s} {ws = ws} w x r) k f v h a = go (λ h. value_says r k f v h a.1) (eqb f g) refl h
  where
    says : T (plain g w && (fits g w && cond (eqb g 4) (holds_imm k (value_of g w)) (ltb (value_of g w) 32))) → Says k g (value_of g w)
    says t = and_right (fits g w) _ (and_right (plain g w) _ t)

    go : (T (has f s) → Says k f (after f v ws)) → (t : Bool) → eqb f g ≡ t → T (cond t true (has f s)) → Says k f (after f (cond t (value_of g w) v) ws)
    go ih true q h = after_says k f (value_of g w) ws (subst (λ (g' : ℕ). Says k g' (value_of g w)) (sym (eqb-true f g q)) (says a.0)) a.1
    go ih false q h = ih h

pub value_small : {s : List Piece} {n : ℕ} {ws : List Word} {l : List ℕ} → Spelled s n ws l → (k f : ℕ) → eqb f 4 ≡ false → Allowed k ws → T (ltb (value f ws) 32)
value_small {s} {n} {ws} {l} r k f q a = go (has f s) refl
  where
    go : (t : Bool) → has f s ≡ t → T (ltb (value f ws) 32)
    go true h = rw q at (value_says r k f 0 (holds _ h) a)
    go false h = rw (after_none r f 0 h) tt

-- ---- the line from the values

abbrev Agrees : (ℕ → ℕ) → List Word → Type 0
Agrees e [] = Unit {0}
Agrees e (w ∷ ws) = (e w.of ≡ value_of w.of w.digits) × Agrees e ws

agrees : {s : List Piece} {n : ℕ} {ws : List Word} {l : List ℕ} → Spelled s n ws l → T (once s) → (e v : ℕ → ℕ) → ((f : ℕ) → T (has f s) → e f ≡ after f (v f) ws) → Agrees e ws
unfolding after
agrees end o e v h = tt
agrees (same r) o e v h = agrees r o e v h
agrees (number {f = g} {n = n} {s = s} {ws = ws} a x r) o e v h = (head, agrees r (and_right (not (has g s)) _ later) e v rest)
  where
    later : T (not (has g s) && once s)
    later = and_right (leb 1 g && leb g 4) _ o

    head : e g ≡ value_of g a
    head =
        let z : e g ≡ after g (value_of g a) ws = rw (eq-eqb g g refl) at (h g (rw (eq-eqb g g refl) tt)) in
        z ∙ after_none r g (value_of g a) (is_false (has g s) (T_not (has g s) (and_left (not (has g s)) _ later)))

    rest : (f : ℕ) → T (has f s) → e f ≡ after f (v f) ws
    rest f t =
        let ne : eqb f g ≡ false = ne_eqb f g (λ q. T_not (has g s) (and_left (not (has g s)) _ later) (subst (λ (f : ℕ). T (has f s)) q t)) in
        rw ne at (h f (rw ne t))

rendered_is : {s : List Piece} {n : ℕ} {ws : List Word} {l : List ℕ} → Spelled s n ws l → (k : ℕ) (e : ℕ → ℕ) → Allowed k ws → Agrees e ws → rendered s e ≡ l
rendered_is end k e a g = refl
rendered_is (same {b = b} r) k e a g = ap (λ (l : List ℕ). b ∷ l) (rendered_is r k e a g)
rendered_is (number {f = f} {l = l} w x r) k e a g =
    let t : T (plain f w && (fits f w && cond (eqb f 4) (holds_imm k (value_of f w)) (ltb (value_of f w) 32))) = a.0 in
    let u = and_right (plain f w) _ t in
    rw (g.0, shown_forth f w x (and_left (plain f w) _ t) (and_left (fits f w) _ u), rendered_is r k e a.1 g.1)

-- a field of a shape is 1, 2, 3 or 4
known : (f : ℕ) (s : List Piece) → T (once s) → T (has f s) → T (leb 1 f && leb f 4)
known f [] o h = absurd h
known f (byte b ∷ s) o h = known f s o h
known f (field g ∷ s) o h = go (known f s (and_right (not (has g s)) _ (and_right (leb 1 g && leb g 4) _ o))) (eqb f g) refl h
  where
    go : (T (has f s) → T (leb 1 f && leb f 4)) → (t : Bool) → eqb f g ≡ t → T (cond t true (has f s)) → T (leb 1 f && leb f 4)
    go ih true q h = rw (eqb-true f g q) (and_left (leb 1 g && leb g 4) _ o)
    go ih false q h = ih h

env_value : (v : ℕ → ℕ) (f : ℕ) → 1 ≤ f → f ≤ 4 → cond (eqb f 1) (v 1) (cond (eqb f 2) (v 2) (cond (eqb f 3) (v 3) (cond (eqb f 4) (v 4) 0))) ≡ v f
env_value v f l u = go (eqb f 1) (eqb f 2) (eqb f 3) (eqb f 4) refl refl refl refl
  where
    go : (t₁ t₂ t₃ t₄ : Bool) → eqb f 1 ≡ t₁ → eqb f 2 ≡ t₂ → eqb f 3 ≡ t₃ → eqb f 4 ≡ t₄ → cond t₁ (v 1) (cond t₂ (v 2) (cond t₃ (v 3) (cond t₄ (v 4) 0))) ≡ v f
    go true t₂ t₃ t₄ q₁ q₂ q₃ q₄ = ap v (sym (eqb-true f 1 q₁))
    go false true t₃ t₄ q₁ q₂ q₃ q₄ = ap v (sym (eqb-true f 2 q₂))
    go false false true t₄ q₁ q₂ q₃ q₄ = ap v (sym (eqb-true f 3 q₃))
    go false false false true q₁ q₂ q₃ q₄ = ap v (sym (eqb-true f 4 q₄))
    go false false false false q₁ q₂ q₃ q₄ = absurd (omega (arith, eqb-false f 1 q₁, eqb-false f 2 q₂, eqb-false f 3 q₃, eqb-false f 4 q₄))

-- ---- THE LAW

pub record Its (c : Bool) (k : ℕ) (ws : List Word) (line : List ℕ) : Type 0 where
  pub ranged : T (in_range (instruction k ws))
  pub is : line ≡ text_for c (instruction k ws) ++ (10 ∷ [])

pub its : (c : Bool) (k : ℕ) (ws : List Word) (line : List ℕ) → k < 48 → Spelled (shape c k) 0 ws line → checked k ws ≡ right → Its c k ws line
unfolding instruction
its c k ws line h r e = record { ranged = ranged; is = is }
  where
    p : Parts
    p = parts k (value 1 ws) (value 2 ws) (value 3 ws) (value 4 ws)

    i : Inst
    i = built p

    a : Allowed k ws
    a = all-allowed k ws e

    kept_value : (f : ℕ) → cond (has f (shape c k)) (value f ws) 0 ≡ value f ws
    kept_value f = go (has f (shape c k)) refl
      where
        go : (t : Bool) → has f (shape c k) ≡ t → cond t (value f ws) 0 ≡ value f ws
        go true q = refl
        go false q = sym (after_none r f 0 q)

    its_parts : parts_of i ≡ p
    its_parts = kept c k (value 1 ws) (value 2 ws) (value 3 ws) (value 4 ws) h ∙ rw (kept_value 1, kept_value 2, kept_value 3, kept_value 4)

    operation : (parts_of i).operation ≡ k
    operation = ap (λ (p : Parts). p.operation) its_parts

    imm_held : T (holds_imm k (value 4 ws))
    imm_held = go (has 4 (shape c k)) refl (rw operation at (no_imm c i))
      where
        go : (t : Bool) → has 4 (shape c k) ≡ t → T (has 4 (shape c k) || holds_imm k 0) → T (holds_imm k (value 4 ws))
        go true q n = value_says r k 4 0 (holds _ q) a
        go false q n = rw (after_none r 4 0 q) (rw q at n)

    registers : T (registers_ok p)
    registers =
        and_both (ltb (value 1 ws) 32) _ (value_small r k 1 refl a)
        (and_both (ltb (value 2 ws) 32) _ (value_small r k 2 refl a) (value_small r k 3 refl a))

    stilled : T (in_range (still i))
    stilled = subst (λ (j : Inst). T (in_range j)) (ap (λ (q : Parts). built (parts q.operation 0 0 0 q.imm)) (sym its_parts) ∙ still_is i) imm_held

    ranged : T (in_range i)
    ranged = (range_is i).1 (subst (λ (q : Parts). T (registers_ok q)) (sym its_parts) registers, stilled)

    its_field : (f : ℕ) → T (has f (shape c k)) → env p f ≡ value f ws
    its_field f t =
        let u = known f (shape c k) (rw operation at (all_once c i)) t in
        env_value (λ f. value f ws) f (leb→le 1 f (and_left (leb 1 f) _ u)) (leb→le f 4 (and_right (leb 1 f) _ u))

    is : line ≡ text_for c i ++ (10 ∷ [])
    is =
        sym (rendered_is r k (env p) a (agrees r (rw operation at (all_once c i)) (env p) (λ f. 0) its_field))
        ∙ subst (λ (q : Parts). rendered (shape c q.operation) (env q) ≡ text_for c i ++ (10 ∷ [])) its_parts (text_rendered c i stilled)

-- ---- EVERY ACCEPTED LINE is the text of the instruction that it gives

pub record Given (text bs rest : List ℕ) : Type 0 where
  pub short : Bool
  pub inst : Inst
  pub ranged : in_range inst ≡ true
  pub is : text ≡ text_for short inst ++ (10 ∷ rest)
  pub code : code_of short inst rest ≡ gives bs rest

-- the text after the line is what is handed on
code_rest : (c : Bool) (i : Inst) (r bs rest : List ℕ) → code_of c i r ≡ gives bs rest → r ≡ rest
code_rest false i r bs rest e = cc
code_rest true i r bs rest e = go (shortened i) e
  where
    go : (s : Result ℕ Unshortened) → half_of s r ≡ gives bs rest → r ≡ rest
    go (Ok h) e = cc
    go (Err U.OutOfRange) e = cc
    go (Err U.NoShortForm) e = cc

pub accepted : (text bs rest : List ℕ) → meaning text ≡ gives bs rest → Given text bs rest
accepted text bs rest e = go (line_at text) refl e
  where
    there : (c : Bool) (k : ℕ) (ws : List Word) (r : List ℕ) → line_at text ≡ reads c k ws r → checked k ws ≡ right → code_of c (instruction k ws) r ≡ gives bs rest → Given text bs rest
    there c k ws r q u e =
        let l = read-line text c k ws r q in
        let t = its c k ws l.line l.known l.spelled u in
        let z : r ≡ rest = code_rest c (instruction k ws) r bs rest e in
        record {
          short = c;
          inst = instruction k ws;
          ranged = is_true _ t.ranged;
          is = l.split ∙ ap (λ (l : List ℕ). l ++ r) t.is ∙ append_assoc (text_for c (instruction k ws)) (10 ∷ []) r ∙ ap (λ (r : List ℕ). text_for c (instruction k ws) ++ (10 ∷ r)) z;
          code = ap (code_of c (instruction k ws)) (sym z) ∙ e;
        }

    go : (l : Line) → line_at text ≡ l → meaning_of l ≡ gives bs rest → Given text bs rest
    go (unreadable p) q e =
        let z : ◌≡◌ {A = ℕ} 0 1 = cc in
        absurd (omega arith)
    go (reads c k ws r) q e = by (checked k ws) refl e
      where
        by : (x : Checked) → checked k ws ≡ x → unless_wrong x (code_of c (instruction k ws) r) ≡ gives bs rest → Given text bs rest
        by right u e = there c k ws r q u e
        by (wrong n) u e =
            let z : ◌≡◌ {A = ℕ} 0 1 = cc in
            absurd (omega arith)
