-- Each refusal of a line exactly if.
use mathlib.Core.Path.{◌≡◌, refl, ap, sym, ◌∙◌}
use mathlib.Core.List.{List, [], ◌∷◌, ◌++◌, append_assoc}
use mathlib.Core.Bool.{Bool, true, false, cond}
use mathlib.Core.Logic.{◌↔◌, ◌⊎◌, inl, inr, ⊎_elim}
use Prim.Native.Nat.{ℕ, ◌≤◌, ◌<◌, ◌^◌}
use native.Mathlib.Omega.{arith}
use Rattle.word.proofs.Bools.{is_true, holds, below}
use Rattle.isa.specs.declared.Inst.{Inst}
use Rattle.isa.specs.Encoding.{in_range}
use Rattle.isa.specs.Rvc.{expanded}
use Rattle.isa.specs.Shortening.{shortened}
use Rattle.isa.specs.Operations.{parts_of}
use Rattle.shortest.specs.Trial.{tried}
use Rattle.shortest.proofs.Shortest.{shortened_one, no_short_form, none-stands}
use Rattle.text.specs.Text.{short_text_of}
use Rattle.answers.specs.declared.Refusal.{Refusal}
use Rattle.answers.specs.Refusals.{number_of}
use Rattle.answers.specs.declared.Refusal.TheVariants.{Unreadable, NumberNotAllowed, NoShortLine}
use Rattle.assembly.specs.Lines.{Word}
use Rattle.assembly.specs.Scanner.{Line, reads, unreadable, line_at}
use Rattle.assembly.specs.Numbers.{allowed, Checked, right, wrong, checked}
use Rattle.assembly.specs.Assembly.{instruction, faulty, half_of, code_of, unless_wrong, meaning_of, meaning}
use Rattle.assembly.specs.Places.{UnreadableAt, Leftmost, WrongNumberAt, NoHalfAt}
use Rattle.assembly.proofs.Places.{place, read-line, line_reads}
use Rattle.assembly.proofs.Back.{meaning-is}
use Rattle.assembly.proofs.Only.{its}
use Rattle.isa.specs.declared.Unshortened.TheVariants as U
use Rattle.isa.specs.declared.Unshortened.{Unshortened}
use Rattle.std.specs.Prelude.{Err, Ok, Result, Some}

-- ---- 10

-- coding refuses with 12 and nothing else
code_not : (c : Bool) (i : Inst) (rest : List ℕ) (r : Refusal) (p : ℕ) → (NoShortLine ≡ r → ⊥) → code_of c i rest ≡ faulty r p → ⊥
code_not false i rest r p ne e =
    let z : ◌≡◌ {A = ℕ} 0 1 = cc in
    omega arith
code_not true i rest r p ne e = go (shortened i) e
  where
    go : (s : Result ℕ Unshortened) → half_of s rest ≡ faulty r p → ⊥
    go (Ok h) e =
        let z : ◌≡◌ {A = ℕ} 0 1 = cc in
        omega arith
    go (Err U.OutOfRange) e = ne (cc)
    go (Err U.NoShortForm) e = ne (cc)

unread : (text : List ℕ) (p : ℕ) → meaning text ≡ faulty Unreadable p → line_at text ≡ unreadable p
unread text p e = go (line_at text) refl e
  where
    go : (l : Line) → line_at text ≡ l → meaning_of l ≡ faulty Unreadable p → line_at text ≡ unreadable p
    go (unreadable n) q e = q ∙ (let z : n ≡ p = cc in ap unreadable z)
    go (reads c k ws r) q e = by (checked k ws) e
      where
        by : (x : Checked) → unless_wrong x (code_of c (instruction k ws) r) ≡ faulty Unreadable p → line_at text ≡ unreadable p
        by right e = absurd (code_not c (instruction k ws) r Unreadable p (λ n. let z = ap number_of n in omega arith) e)
        by (wrong n) e =
            let z : ◌≡◌ {A = ℕ} 0 1 = cc in
            absurd (omega arith)

-- THE PLACE OF 10 IS THE FIRST BYTE THAT CAN'T CONTINUE A READABLE LINE
pub refused_10 : (text : List ℕ) (p : ℕ) → (meaning text ≡ faulty Unreadable p) ↔ UnreadableAt text p
refused_10 text p = (λ e. place text p (unread text p e), λ h. go h (line_at text) refl)
  where
    only : UnreadableAt text p → (q : ℕ) → UnreadableAt text q → q ≡ p
    only h q g =
        ⊎_elim (λ (l : p < q). absurd (h.beyond q l g.within g.before))
        (λ (l : q ≤ p). ⊎_elim (λ (m : q < p). absurd (g.beyond p m h.within h.before)) (λ (m : p ≤ q). omega arith) (below q p))
        (below p q)

    go : UnreadableAt text p → (l : Line) → line_at text ≡ l → meaning text ≡ faulty Unreadable p
    go h (unreadable q) e = ap meaning_of e ∙ ap (faulty Unreadable) (only h q (place text q e))
    go h (reads c k ws r) e =
        let l = read-line text c k ws r e in
        absurd (h.no_line l.line r l.split (record { short = c; operation = k; known = l.known; numbers = ws; spelled = l.spelled }))

-- ---- 11

leftmost : (k : ℕ) (ws : List Word) (p : ℕ) → checked k ws ≡ wrong p → Leftmost k ws p
unfolding checked
leftmost k [] p e =
    let z : ◌≡◌ {A = ℕ} 0 1 = cc in
    absurd (omega arith)
leftmost k (w ∷ ws) p e = go (λ q. leftmost k ws p q) (allowed k w) refl e
  where
    go : (checked k ws ≡ wrong p → Leftmost k ws p) → (t : Bool) → allowed k w ≡ t → cond t (checked k ws) (wrong w.place) ≡ wrong p → Leftmost k (w ∷ ws) p
    go ih true q e =
        let m = ih e in
        record { left = w ∷ m.left; word = m.word; more = m.more; split = ap (λ (l : List Word). w ∷ l) m.split; fine = rw q m.fine; bad = m.bad; place = m.place }
    go ih false q e =
        let z : w.place ≡ p = cc in
        record { left = []; word = w; more = ws; split = refl; fine = refl; bad = q; place = sym z }

leftmost-at : (k : ℕ) (w : Word) (more left : List Word) → allowed k w ≡ false → checked k left ≡ right → checked k (left ++ (w ∷ more)) ≡ wrong w.place
unfolding checked
leftmost-at k w more [] b e = rw b
leftmost-at k w more (v ∷ left) b e = by (λ q. leftmost-at k w more left b q) (allowed k v) e
  where
    by : (checked k left ≡ right → checked k (left ++ (w ∷ more)) ≡ wrong w.place) → (t : Bool) → cond t (checked k left) (wrong v.place) ≡ right
        → cond t (checked k (left ++ (w ∷ more))) (wrong v.place) ≡ wrong w.place
    by ih true e = ih e
    by ih false e = cc

-- THE PLACE OF 11 IS THE FIRST BYTE OF THE LEFTMOST WRONG NUMBER
pub refused_11 : (text : List ℕ) (p : ℕ) → (meaning text ≡ faulty NumberNotAllowed p) ↔ WrongNumberAt text p
refused_11 text p = (λ e. to (line_at text) refl e, from)
  where
    to : (l : Line) → line_at text ≡ l → meaning_of l ≡ faulty NumberNotAllowed p → WrongNumberAt text p
    to (unreadable n) q e =
        let z : ◌≡◌ {A = ℕ} 0 1 = cc in
        absurd (omega arith)
    to (reads c k ws r) q e = by (checked k ws) refl e
      where
        by : (x : Checked) → checked k ws ≡ x → unless_wrong x (code_of c (instruction k ws) r) ≡ faulty NumberNotAllowed p → WrongNumberAt text p
        by right u e = absurd (code_not c (instruction k ws) r NumberNotAllowed p (λ n. let z = ap number_of n in omega arith) e)
        by (wrong n) u e =
            let z : n ≡ p = cc in
            record { short = c; operation = k; numbers = ws; rest = r; read = read-line text c k ws r q; leftmost = leftmost k ws p (u ∙ ap wrong z) }

    from : WrongNumberAt text p → meaning text ≡ faulty NumberNotAllowed p
    from w =
        let l = w.read in
        let m = w.leftmost in
        let k : ℕ = w.operation in
        let u : checked k w.numbers ≡ wrong p = ap (checked k) m.split ∙ leftmost-at k m.word m.more m.left m.bad m.fine ∙ ap wrong (sym m.place) in
        ap meaning l.split ∙ ap meaning_of (line_reads w.short k l.known l.spelled w.rest)
        ∙ ap (λ (x : Checked). unless_wrong x (code_of w.short (instruction k w.numbers) w.rest)) u

-- ---- 12: the text, with c:, of an instruction for which no halfword stands; its byte is 0

pub refused_12 : (text : List ℕ) (p : ℕ) → (meaning text ≡ faulty NoShortLine p) ↔ NoHalfAt text p
refused_12 text p = (λ e. to (line_at text) refl e, from)
  where
    none_of : (i : Inst) → in_range i ≡ true → (r : List ℕ) → half_of (shortened i) r ≡ faulty NoShortLine p → (p ≡ 0) × ((h : ℕ) → h < 2 ^ 16 → expanded h ≡ Some i → ⊥)
    none_of i g r e = go (shortened i) refl e
      where
        go : (s : Result ℕ Unshortened) → shortened i ≡ s → half_of s r ≡ faulty NoShortLine p → (p ≡ 0) × ((h : ℕ) → h < 2 ^ 16 → expanded h ≡ Some i → ⊥)
        go (Ok h) q e =
            let z : ◌≡◌ {A = ℕ} 0 1 = cc in
            absurd (omega arith)
        go (Err U.OutOfRange) q e = (
          (let z : 0 ≡ p = cc in sym z),
          λ h l m. let x : Ok (tried (parts_of i)) ≡ Err U.OutOfRange = sym (shortened_one i h l m) ∙ q in
              let z : ◌≡◌ {A = ℕ} 0 1 = cc in
              omega arith,
        )
        go (Err U.NoShortForm) q e = ((let z : 0 ≡ p = cc in sym z), no_short_form i q)

    to : (l : Line) → line_at text ≡ l → meaning_of l ≡ faulty NoShortLine p → NoHalfAt text p
    to (unreadable n) q e =
        let z : ◌≡◌ {A = ℕ} 0 1 = cc in
        absurd (omega arith)
    to (reads c k ws r) q e = by (checked k ws) refl e
      where
        by : (x : Checked) → checked k ws ≡ x → unless_wrong x (code_of c (instruction k ws) r) ≡ faulty NoShortLine p → NoHalfAt text p
        by (wrong n) u e =
            let z : ◌≡◌ {A = ℕ} 0 1 = cc in
            absurd (omega arith)
        by right u e = with_c c q e
          where
            with_c : (c : Bool) → line_at text ≡ reads c k ws r → code_of c (instruction k ws) r ≡ faulty NoShortLine p → NoHalfAt text p
            with_c false q e =
                let z : ◌≡◌ {A = ℕ} 0 1 = cc in
                absurd (omega arith)
            with_c true q e =
                let l = read-line text true k ws r q in
                let t = its true k ws l.line l.known l.spelled u in
                let g = is_true _ t.ranged in
                let n = none_of (instruction k ws) g r e in
                record {
                  inst = instruction k ws;
                  rest = r;
                  ranged = g;
                  is = l.split ∙ ap (λ (l : List ℕ). l ++ r) t.is ∙ append_assoc (short_text_of (instruction k ws)) (10 ∷ []) r;
                  none = n.1;
                  place = n.0;
                }

    from : NoHalfAt text p → meaning text ≡ faulty NoShortLine p
    from n =
        ap meaning n.is ∙ meaning-is n.inst (holds _ n.ranged) true n.rest
        ∙ ap (λ (s : Result ℕ Unshortened). half_of s n.rest) (none-stands n.inst n.ranged n.none) ∙ ap (faulty NoShortLine) (sym n.place)

-- ---- no other

pub which : (text : List ℕ) (r : Refusal) (p : ℕ) → meaning text ≡ faulty r p → (r ≡ Unreadable) ⊎ ((r ≡ NumberNotAllowed) ⊎ (r ≡ NoShortLine))
which text r p e = go (line_at text) e
  where
    coded : (c : Bool) (i : Inst) (rest : List ℕ) → code_of c i rest ≡ faulty r p → r ≡ NoShortLine
    coded false i rest e = cc
    coded true i rest e = by (shortened i) e
      where
        by : (s : Result ℕ Unshortened) → half_of s rest ≡ faulty r p → r ≡ NoShortLine
        by (Ok h) e = cc
        by (Err U.OutOfRange) e = cc
        by (Err U.NoShortForm) e = cc

    go : (l : Line) → meaning_of l ≡ faulty r p → (r ≡ Unreadable) ⊎ ((r ≡ NumberNotAllowed) ⊎ (r ≡ NoShortLine))
    go (unreadable n) e = inl (cc)
    go (reads c k ws rest) e = by (checked k ws) e
      where
        by : (x : Checked) → unless_wrong x (code_of c (instruction k ws) rest) ≡ faulty r p → (r ≡ Unreadable) ⊎ ((r ≡ NumberNotAllowed) ⊎ (r ≡ NoShortLine))
        by (wrong n) e = inr (inl (cc))
        by right e = inr (inr (coded c (instruction k ws) rest e))
