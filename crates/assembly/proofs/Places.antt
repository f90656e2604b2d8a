-- Reading by all shapes: what the first line is, and the place of refusal 10, both ways.
use mathlib.Core.Path.{◌≡◌, refl, ap, sym, ◌∙◌, subst}
use mathlib.Core.List.{List, [], ◌∷◌, ◌++◌}
use mathlib.Core.Bool.{Bool, true, false, cond, ◌&&◌}
use mathlib.Core.Logic.{◌⊎◌, inl, inr}
use Prim.Native.Nat.{ℕ, zero, suc, ◌+◌, ◌≤◌, ◌<◌}
use native.Mathlib.Omega.{arith}
use lib.Dec.{T, eqb, ltb}
use lib.ListN.{length, take, drop, length-append, take-append-drop}
use lib.Seq.{length-take-le, take_at}
use borrow.Author.Tests.{ltb-true, ltb-false, ne_eqb}
use Rattle.word.proofs.Bools.{and_left, and_right, below}
use Rattle.word.proofs.Rows.{passes}
use Rattle.ascii.specs.Numbers.{decimal, decimal_by, signed_decimal}
use Rattle.isa.specs.Building.{built}
use Rattle.text.specs.Names.{names, name_at}
use Rattle.text.specs.Text.{operands_of, text_of, short_text_of}
use Rattle.assembly.specs.Lines.{Piece, byte, field, shape, Word, Spelled, end, same, number, Readable, Begins}
use Rattle.assembly.specs.Scanner.{Scan, at, stuck, scan, Line, reads, unreadable, line_of, furthest, among, line_at}
use Rattle.assembly.specs.Places.{UnreadableAt, FirstLine}
use Rattle.assembly.proofs.Scanning.{follows, stays, complete, reaches, outcome, Outcome, Stopped}

-- ---- what antt computes of the 96 shapes

-- n shapes from the operation k on
abbrev rows : Bool → ℕ → ℕ → List (ℕ × List Piece)
rows c zero k = []
rows c (suc n) k = (k, shape c k) ∷ rows c n (suc k)

-- what each of them passes
row : (c : Bool) (p : ℕ → List Piece → Bool) (n k : ℕ) → T (passes p (rows c n k)) → (j : ℕ) → k ≤ j → j < k + n → T (p j (shape c j))
row c p zero k t j l u = absurd (omega arith)
row c p (suc n) k t j l u = go (row c p n (suc k) (and_right (p k (shape c k)) _ t) j) (below k j)
  where
    go : (suc k ≤ j → j < suc k + n → T (p j (shape c j))) → (k < j) ⊎ (j ≤ k) → T (p j (shape c j))
    go f (inl h) = f h (omega arith)
    go f (inr h) =
        let e : k ≡ j = omega arith in
        rw e at (and_left (p k (shape c k)) _ t)

-- two shapes that have different bytes at a place that bytes alone lead to
abbrev clash : List Piece → List Piece → Bool
clash [] s' = false
clash (byte b ∷ s) [] = false
clash (byte b ∷ s) (byte d ∷ s') = cond (eqb b d) (clash s s') true
clash (byte b ∷ s) (field g ∷ s') = false
clash (field f ∷ s) s' = false

-- no digit follows a number; the shapes of two operations clash, also one with c: and one without
abbrev good : Bool → ℕ → List Piece → Bool
good c k s = follows s && passes (λ j s'. cond (eqb j k) true (clash s s')) (rows c 48 0)

all-good : (c : Bool) → T (passes (good c) (rows c 48 0))
unfolding decimal decimal_by signed_decimal names name_at operands_of text_of short_text_of built shape
all-good true = tt
all-good false = tt

all_mixed : T (passes (λ k s. passes (λ j s'. clash s s') (rows false 48 0)) (rows true 48 0))
unfolding decimal decimal_by signed_decimal names name_at operands_of text_of short_text_of built shape
all_mixed = tt

pub all_follow : (c : Bool) (k : ℕ) → k < 48 → T (follows (shape c k))
all_follow c k h = and_left (follows (shape c k)) _ (row c (good c) 48 0 (all-good c) k (omega arith) (omega arith))

pairs_clash : (c : Bool) (k j : ℕ) → k < 48 → j < 48 → (j ≡ k → ⊥) → T (clash (shape c k) (shape c j))
pairs_clash c k j h g ne =
    let p : ℕ → List Piece → Bool = λ j s'. cond (eqb j k) true (clash (shape c k) s') in
    let t = row c p 48 0 (and_right (follows (shape c k)) _ (row c (good c) 48 0 (all-good c) k (omega arith) (omega arith))) j (omega arith) (omega arith) in
    rw (ne_eqb j k ne) at t

mixed_clash : (k j : ℕ) → k < 48 → j < 48 → T (clash (shape true k) (shape false j))
mixed_clash k j h g =
    row false (λ j s'. clash (shape true k) s') 48 0 (row true (λ k s. passes (λ j s'. clash s s') (rows false 48 0)) 48 0 all_mixed k (omega arith) (omega arith)) j (omega arith)
    (omega arith)

-- ---- a text that is read by a shape is not read by another

abbrev Stuck : Scan → Type 0
Stuck r = (m : ℕ) × (r ≡ stuck m)

clashes : {s : List Piece} {n : ℕ} {new : List Word} {l : List ℕ} → Spelled s n new l → (s' : List Piece) → T (clash s s') → (t : List ℕ) (ws : List Word)
    → Stuck (scan s' (at n (l ++ t) ws))
unfolding scan
clashes end s' h t ws = absurd h
clashes {n = n} (same {b = b} {s = s} {l = l} r) s' h t ws = go s' h (λ s'' g. clashes r s'' g t ws)
  where
    test : (d : ℕ) (s'' : List Piece) (e : Bool) → T (cond e (clash s s'') true) → (T (clash s s'') → Stuck (scan s'' (at (suc n) (l ++ t) ws)))
        → Stuck (scan s'' (cond e (at (suc n) (l ++ t) ws) (stuck n)))
    test d s'' true h ih = ih h
    test d s'' false h ih = (n, stays s'' n)

    go : (s' : List Piece) → T (clash (byte b ∷ s) s') → ((s'' : List Piece) → T (clash s s'') → Stuck (scan s'' (at (suc n) (l ++ t) ws))) → Stuck (scan s' (at n (b ∷ (l ++ t)) ws))
    go [] h ih = absurd h
    go (byte d ∷ s'') h ih = test d s'' (eqb b d) h (ih s'')
    go (field g ∷ s'') h ih = absurd h
clashes (number a g r) s' h t ws = absurd h

-- ---- among the operations

abbrev scanned : Bool → ℕ → List ℕ → Scan
scanned c k l = scan (shape c k) (at 0 l [])

-- none reads
none_reads : (c : Bool) (n : ℕ) (l : List ℕ) → ((j : ℕ) → j < n → Stuck (scanned c j l)) → (p : ℕ) × (among c n l ≡ unreadable p)
unfolding among
none_reads c zero l f = (0, refl)
none_reads c (suc n) l f =
    let a = none_reads c n l (λ j h. f j (omega arith)) in
    let b = f n (omega arith) in
    (cond (ltb a.0 b.0) b.0 a.0, rw (a.1, b.1))

-- one reads
one_reads : (c : Bool) (n k : ℕ) (l : List ℕ) {m : ℕ} {r : List ℕ} {ws : List Word} → k < n → scanned c k l ≡ at m r ws
    → ((j : ℕ) → j < n → (j ≡ k → ⊥) → Stuck (scanned c j l)) → among c n l ≡ reads c k ws r
unfolding among
one_reads c zero k l h e f = absurd (omega arith)
one_reads c (suc n) k l {m} {r} {ws} h e f = go (λ g. one_reads c n k l g e (λ j i ne. f j (omega arith) ne)) (below k n)
  where
    go : (k < n → among c n l ≡ reads c k ws r) → (k < n) ⊎ (n ≤ k) → furthest (among c n l) (line_of c n (scanned c n l)) ≡ reads c k ws r
    go ih (inl g) = rw (ih g)
    go ih (inr g) =
        let q : k ≡ n = omega arith in
        let last : scanned c n l ≡ at m r ws = subst (λ (j : ℕ). scanned c j l ≡ at m r ws) q e in
        rw ((none_reads c n l (λ j i. f j (omega arith) (λ z. omega arith))).1, last) (ap (λ (j : ℕ). reads c j ws r) (sym q))

-- a line that is read
pub line_reads : (c : Bool) (k : ℕ) {ws : List Word} {l : List ℕ} → k < 48 → Spelled (shape c k) 0 ws l → (t : List ℕ) → line_at (l ++ t) ≡ reads c k ws t
line_reads false k {ws} {l} h r t =
    rw (one_reads false 48 k (l ++ t) h (complete r (all_follow false k h) t []) (λ j g ne. clashes r (shape false j) (pairs_clash false k j h g ne) t []))
line_reads true k {ws} {l} h r t =
    rw (
      (none_reads false 48 (l ++ t) (λ j g. clashes r (shape false j) (mixed_clash k j h g) t [])).1,
      one_reads true 48 k (l ++ t) h (complete r (all_follow true k h) t []) (λ j g ne. clashes r (shape true j) (pairs_clash true k j h g ne) t []),
    )

-- ---- where no shape reads, none goes further

furthest-none : (a b : Line) (p : ℕ) → furthest a b ≡ unreadable p
    → (m n : ℕ) × (a ≡ unreadable m) × (b ≡ unreadable n) × (m ≤ p) × (n ≤ p) × ((p ≡ m) ⊎ (p ≡ n))
furthest-none (reads c k ws l) b p e =
    let z : ◌≡◌ {A = ℕ} 0 1 = cc in
    absurd (omega arith)
furthest-none (unreadable m) (reads c k ws l) p e =
    let z : ◌≡◌ {A = ℕ} 0 1 = cc in
    absurd (omega arith)
furthest-none (unreadable m) (unreadable n) p e = go (ltb m n) refl e
  where
    go : (t : Bool) → ltb m n ≡ t → unreadable (cond t n m) ≡ unreadable p
        → (m' n' : ℕ) × (unreadable m ≡ unreadable m') × (unreadable n ≡ unreadable n') × (m' ≤ p) × (n' ≤ p) × ((p ≡ m') ⊎ (p ≡ n'))
    go true q e =
        let z : n ≡ p = cc in
        (m, n, refl, refl, omega (arith, ltb-true m n q), omega arith, inr (sym z))
    go false q e =
        let z : m ≡ p = cc in
        (m, n, refl, refl, omega arith, omega (arith, ltb-false m n q), inl (sym z))

line-stuck : (c : Bool) (k : ℕ) (r : Scan) (n : ℕ) → line_of c k r ≡ unreadable n → r ≡ stuck n
line-stuck c k (at m l ws) n e =
    let z : ◌≡◌ {A = ℕ} 0 1 = cc in
    absurd (omega arith)
line-stuck c k (stuck m) n e =
    let z : m ≡ n = cc in
    ap stuck z

record Behind (c : Bool) (k : ℕ) (l : List ℕ) (p : ℕ) : Type 0 where
  place : ℕ
  is : scanned c k l ≡ stuck place
  low : place ≤ p

record Furthest (c : Bool) (l : List ℕ) (p : ℕ) : Type 0 where
  operation : ℕ
  known : operation < 48
  is : scanned c operation l ≡ stuck p

behind : (c : Bool) (n : ℕ) (l : List ℕ) (p : ℕ) → among c n l ≡ unreadable p → (k : ℕ) → k < n → Behind c k l p
unfolding among
behind c zero l p e k h = absurd (omega arith)
behind c (suc n) l p e k h =
    let f = furthest-none (among c n l) (line_of c n (scanned c n l)) p e in
    go (λ g. behind c n l f.0 f.2 k g) f.4 f.1 (line-stuck c n (scanned c n l) f.1 f.3) f.5 (below k n)
  where
    go : {m : ℕ} → (k < n → Behind c k l m) → m ≤ p → (q : ℕ) → scanned c n l ≡ stuck q → q ≤ p → (k < n) ⊎ (n ≤ k) → Behind c k l p
    go ih h₁ q s h₂ (inl g) =
        let b = ih g in
        record { place = b.place; is = b.is; low = omega (arith, b.low) }
    go ih h₁ q s h₂ (inr g) =
        let z : n ≡ k = omega arith in
        record { place = q; is = subst (λ (j : ℕ). scanned c j l ≡ stuck q) z s; low = h₂ }

furthest-is : (c : Bool) (n : ℕ) (l : List ℕ) (p : ℕ) → n ≤ 48 → among c n l ≡ unreadable p → (p ≡ 0) ⊎ Furthest c l p
unfolding among
furthest-is c zero l p u e = inl (let z : 0 ≡ p = cc in sym z)
furthest-is c (suc n) l p u e =
    let f = furthest-none (among c n l) (line_of c n (scanned c n l)) p e in
    go f.0 (furthest-is c n l f.0 (omega arith) f.2) f.1 (line-stuck c n (scanned c n l) f.1 f.3) f.6
  where
    go : (m : ℕ) → (m ≡ 0) ⊎ Furthest c l m → (q : ℕ) → scanned c n l ≡ stuck q → (p ≡ m) ⊎ (p ≡ q) → (p ≡ 0) ⊎ Furthest c l p
    go m o q s (inl e) = subst (λ (m : ℕ). (m ≡ 0) ⊎ Furthest c l m) (sym e) o
    go m o q s (inr e) = inr (record { operation = n; known = omega arith; is = s ∙ ap stuck (sym e) })

-- ---- THE PLACE OF REFUSAL 10

-- a shape that is stuck at p
starts : (c : Bool) (k : ℕ) (l : List ℕ) (p : ℕ) → k < 48 → scanned c k l ≡ stuck p → (p ≤ length l) × Begins (take p l)
starts c k l p h e = go (subst (Outcome (shape c k) 0 l []) e (outcome (shape c k) 0 l []))
  where
    go : Stopped (shape c k) 0 l p → (p ≤ length l) × Begins (take p l)
    go o =
        let front : take p l ≡ o.front = ap (take p) o.split ∙ take_at o.front o.back p (omega (arith, o.place)) in (
          omega (arith, o.place, simp length-append at (ap length o.split)),
          record { rest = o.rest; line = record { short = c; operation = k; known = h; numbers = o.numbers; spelled = rw front o.line } },
        )

-- of each of the 96
behind_all : (l : List ℕ) (p : ℕ) → line_at l ≡ unreadable p → (c : Bool) (k : ℕ) → k < 48 → Behind c k l p
behind_all l p e c k h = go c
  where
    f : (m n : ℕ) × (among false 48 l ≡ unreadable m) × (among true 48 l ≡ unreadable n) × (m ≤ p) × (n ≤ p) × ((p ≡ m) ⊎ (p ≡ n))
    f = furthest-none (among false 48 l) (among true 48 l) p e

    go : (c : Bool) → Behind c k l p
    go false =
        let b = behind false 48 l f.0 f.2 k h in
        record { place = b.place; is = b.is; low = omega (arith, b.low, f.4) }
    go true =
        let b = behind true 48 l f.1 f.3 k h in
        record { place = b.place; is = b.is; low = omega (arith, b.low, f.5) }

first_starts : (l : List ℕ) (p : ℕ) → line_at l ≡ unreadable p → (p ≤ length l) × Begins (take p l)
first_starts l p e = go f.0 f.1 (furthest-is false 48 l f.0 (omega arith) f.2) (furthest-is true 48 l f.1 (omega arith) f.3) f.6
  where
    f : (m n : ℕ) × (among false 48 l ≡ unreadable m) × (among true 48 l ≡ unreadable n) × (m ≤ p) × (n ≤ p) × ((p ≡ m) ⊎ (p ≡ n))
    f = furthest-none (among false 48 l) (among true 48 l) p e

    at_zero : p ≡ 0 → (p ≤ length l) × Begins (take p l)
    at_zero z =
        let b = behind_all l p e false 0 (omega arith) in
        let q : b.place ≡ p = omega (arith, b.low) in
        starts false 0 l p (omega arith) (b.is ∙ ap stuck q)

    at : (c : Bool) (m : ℕ) → p ≡ m → (m ≡ 0) ⊎ Furthest c l m → (p ≤ length l) × Begins (take p l)
    at c m q (inl z) = at_zero (q ∙ z)
    at c m q (inr g) = starts c g.operation l p g.known (g.is ∙ ap stuck (sym q))

    go : (m n : ℕ) → (m ≡ 0) ⊎ Furthest false l m → (n ≡ 0) ⊎ Furthest true l n → (p ≡ m) ⊎ (p ≡ n) → (p ≤ length l) × Begins (take p l)
    go m n x y (inl q) = at false m q x
    go m n x y (inr q) = at true n q y

pub place : (text : List ℕ) (p : ℕ) → line_at text ≡ unreadable p → UnreadableAt text p
place text p e =
    let s = first_starts text p e in
    record { within = s.0; before = s.1; beyond = beyond; no_line = no_line }
  where
    beyond : (q : ℕ) → p < q → q ≤ length text → Begins (take q text) → ⊥
    beyond q l u g =
        let r = g.line in
        let b = behind_all text p e r.short r.operation r.known in
        let reach = reaches r.spelled (all_follow r.short r.operation r.known) (take q text) g.rest (drop q text) [] refl in
        omega (arith, b.low, length-take-le q text u, rw (take-append-drop q text, b.is) at reach)

    no_line : (line rest : List ℕ) → text ≡ line ++ rest → Readable line → ⊥
    no_line line rest q r =
        let z = sym e ∙ ap line_at q ∙ line_reads r.short r.operation r.known r.spelled rest in
        let n : ◌≡◌ {A = ℕ} 0 1 = cc in
        omega arith

-- ---- A LINE THAT IS READ is readable, and stands in front

among-read : (c : Bool) (n : ℕ) (l : List ℕ) (c' : Bool) (k : ℕ) (ws : List Word) (r : List ℕ) → n ≤ 48 → among c n l ≡ reads c' k ws r → FirstLine l c' k ws r
unfolding among
among-read c zero l c' k ws r u e =
    let z : ◌≡◌ {A = ℕ} 0 1 = cc in
    absurd (omega arith)
among-read c (suc n) l c' k ws r u e = go (among c n l) (λ q. among-read c n l c' k ws r (omega arith) q) (scanned c n l) (outcome (shape c n) 0 l []) e
  where
    go : (a : Line) → (a ≡ reads c' k ws r → FirstLine l c' k ws r) → (s : Scan) → Outcome (shape c n) 0 l [] s → furthest a (line_of c n s) ≡ reads c' k ws r → FirstLine l c' k ws r
    go (reads c'' k'' ws'' r'') ih s o e = ih e
    go (unreadable m) ih (stuck q) o e =
        let z : ◌≡◌ {A = ℕ} 0 1 = cc in
        absurd (omega arith)
    go (unreadable m) ih (at q r'' ws'') o e =
        let p₁ : c ≡ c' = cc in
        let p₂ : n ≡ k = cc in
        let p₃ : ws'' ≡ ws = cc in
        let p₄ : r'' ≡ r = cc in
        let w : o.new ≡ ws = sym o.more ∙ p₃ in
        record {
          line = o.front;
          known = omega arith;
          split = o.split ∙ ap (λ (r : List ℕ). o.front ++ r) p₄;
          spelled = rw (← p₁, ← p₂, ← w) o.line;
        }

pub read-line : (text : List ℕ) (c : Bool) (k : ℕ) (ws : List Word) (rest : List ℕ) → line_at text ≡ reads c k ws rest → FirstLine text c k ws rest
read-line text c k ws rest e = go (among false 48 text) refl e
  where
    go : (a : Line) → among false 48 text ≡ a → furthest a (among true 48 text) ≡ reads c k ws rest → FirstLine text c k ws rest
    go (reads c' k' ws' r') q e = among-read false 48 text c k ws rest (omega arith) (q ∙ e)
    go (unreadable m) q e = right (among true 48 text) refl e
      where
        right : (b : Line) → among true 48 text ≡ b → furthest (unreadable m) b ≡ reads c k ws rest → FirstLine text c k ws rest
        right (reads c' k' ws' r') q e = among-read true 48 text c k ws rest (omega arith) (q ∙ e)
        right (unreadable n) q e =
            let z : ◌≡◌ {A = ℕ} 0 1 = cc in
            absurd (omega arith)
