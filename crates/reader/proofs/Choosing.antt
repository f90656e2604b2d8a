-- Among the operations, as the reader goes.
use Rattle.std.proofs.Common.{max, rules}
use Rattle.std.specs.Prelude.{Ok}
use Rattle.reader.specs.declared.Reading.{Reading}
use mathlib.Core.Path.{◌≡◌, refl, ap, sym, ◌∙◌, subst}
use mathlib.Core.List.{List, [], ◌∷◌}
use mathlib.Core.Bool.{Bool, true, false, cond}
use mathlib.Core.Logic.{◌⊎◌, inl, inr}
use Prim.Native.Nat.{ℕ, zero, suc, ◌+◌, ◌≤◌, ◌<◌}
use native.Mathlib.Omega.{arith}
use native.Mathlib.Numerals.{add-one}
use lib.Dec.{eqb, ltb}
use lib.ListN.{length}
use borrow.Author.Tests.{eq-eqb, ne_eqb}
use Rattle.word.proofs.Bools.{below}
use Rattle.reader.specs.Reading.{At, Stuck}
use Rattle.reader.specs.declared.Fields.{Fields}
use Rattle.reader.specs.Line.{Reads, Unreadable, Line, line_of, furthest, read_by, among_from, prefix, colon, first_line}

-- of two places the one further on
pub larger : (m n : ℕ) → max n m ≡ cond (ltb m n) n m
larger m n = search rules

module _ (c : Bool) (from : ℕ) (s : List ℕ) where
  pub nothing_yet : among_from c from 0 s ≡ Unreadable 0
  unfolding among_from
  nothing_yet = refl

  up : (n m : ℕ) (k : ℕ) (x : Fields) (e : ℕ) → among_from c from m s ≡ Reads c k x e → m ≤ n → among_from c from n s ≡ Reads c k x e
  unfolding among_from
  up zero m k x e h l =
      let z : m ≡ 0 = omega arith in
      subst (λ (m : ℕ). among_from c from m s ≡ Reads c k x e) z h
  up (suc n) m k x e h l = go (λ l. up n m k x e h l) (below m (suc n))
    where
      go : (m ≤ n → among_from c from n s ≡ Reads c k x e) → (m < suc n) ⊎ (suc n ≤ m) → furthest (among_from c from n s) (line_of c n (read_by from s n)) ≡ Reads c k x e
      go ih (inl g) = rw (ih (omega arith))
      go ih (inr g) =
          let z : m ≡ suc n = omega arith in
          subst (λ (m : ℕ). among_from c from m s ≡ Reads c k x e) z h

  pub found : (k p n : ℕ) (x : Fields) → among_from c from k s ≡ Unreadable p → At n x ≡ read_by from s k → k < 48 → Reads c k x n ≡ among_from c from 48 s
  unfolding among_from
  found k p n x h e l = sym (up 48 (suc k) k x n here (omega arith))
    where
      here : among_from c from (suc k) s ≡ Reads c k x n
      here = rw (h, ← e)

  pub one_more : (k p n q : ℕ) → among_from c from k s ≡ Unreadable p → Stuck n ≡ read_by from s k → q ≡ max n p → among_from c from (k + 1) s ≡ Unreadable q
  unfolding among_from
  one_more k p n q h e l = ap (λ (j : ℕ). among_from c from j s) (add-one k) ∙ rw (h, ← e, l, larger p n)

-- ---- the first line

module _ (s : List ℕ) where
  pub long-first : (l : Line) → l ≡ among_from false 0 48 s → (r : Reading) → l ≡ Ok r → l ≡ first_line s
  unfolding first_line
  long-first l e r q = q ∙ sym (ap (λ (l : Line). furthest l (cond (eqb (prefix s) 2) (among_from true 2 48 s) (Unreadable (prefix s)))) (sym e ∙ q))

  module _ (p : ℕ) (h : Unreadable p ≡ among_from false 0 48 s) where
    after-long : (o : Line) → cond (eqb (prefix s) 2) (among_from true 2 48 s) (Unreadable (prefix s)) ≡ o → furthest (Unreadable p) o ≡ first_line s
    unfolding first_line
    after-long o e = λ i. furthest (h i) (sym e i)

    pub no_colon : (n : ℕ) → n ≡ prefix s → n < 2 → (q : ℕ) → q ≡ max n p → Unreadable q ≡ first_line s
    no_colon n e l q z =
        ap Unreadable (z ∙ larger p n ∙ ap (λ (n : ℕ). cond (ltb p n) n p) e)
        ∙ after-long (Unreadable (prefix s)) (rw (ne_eqb (prefix s) 2 (λ t. omega arith)))

    pub colon-first : (n : ℕ) → n ≡ prefix s → n ≡ 2 → (l : Line) → l ≡ among_from true 2 48 s → furthest (Unreadable p) l ≡ first_line s
    colon-first n e t l q =
        ap (furthest (Unreadable p)) q ∙ after-long (among_from true 2 48 s) (rw (eq-eqb (prefix s) 2 (sym e ∙ t)))

-- the reader's count of c: is at most the text
pub prefix_most : (s : List ℕ) → (prefix s ≤ 2) × (prefix s ≤ length s)
prefix_most [] = (omega arith, omega arith)
prefix_most (b ∷ l) = go (eqb b 99) l
  where
    two : (t : Bool) (l : List ℕ) → (cond t 2 1 ≤ 2) × (cond t 2 1 ≤ suc (suc (length l)))
    two true l = (omega arith, omega arith)
    two false l = (omega arith, omega arith)

    go : (t : Bool) (l : List ℕ) → (cond t (colon l) 0 ≤ 2) × (cond t (colon l) 0 ≤ suc (length l))
    go false l = (omega arith, omega arith)
    go true [] = (omega arith, omega arith)
    go true (c ∷ l) = two (eqb c 58) l
