-- Where the shape of one operation reads the line in front, that is the first line: no other shape reads it.
use Rattle.std.specs.Prelude.{Ok, Err}
use Rattle.reader.specs.declared.Cursor.{Cursor}
use mathlib.Core.Path.{◌≡◌, ap, sym, ◌∙◌, subst}
use mathlib.Core.List.{List, [], ◌++◌}
use mathlib.Core.Bool.{Bool, true, false, cond}
use Prim.Native.Nat.{ℕ, ◌≤◌, ◌<◌}
use native.Mathlib.Omega.{arith}
use lib.Dec.{eqb}
use lib.ListN.{length, drop, length-append, length-drop}
use Rattle.assembly.specs.Lines.{shape, Word}
use Rattle.assembly.specs.Scanner.{Scan, at, stuck}
use Rattle.assembly.specs.Scanner as S
use Rattle.assembly.proofs.Scanning.{Went, Outcome, outcome}
use Rattle.assembly.proofs.Places.{line_reads}
use Rattle.reader.specs.declared.Fields.{Fields}
use Rattle.reader.specs.Reading.{At, Stuck, no_fields}
use Rattle.reader.specs.Line.{Reads, Line, taken_all, read_by, prefix, first_line, Same}
use Rattle.reader.proofs.Telling.{to_read, scanned, from_alike, short_alike, told}

module _ (s : List ℕ) (c : Bool) (k : ℕ) (known : k < 48) (n : ℕ) (x : Fields) where
  -- the text after a line tells the place after it
  same_place : (m m' : ℕ) (front l : List ℕ) → s ≡ front ++ l → m ≡ length front → l ≡ drop m' s → m' ≤ length s → m ≡ m'
  same_place m m' front l e p q h = omega (arith, ap length e, length-append front l, ap length q, length-drop m' s)

  told_so : (m : ℕ) (l : List ℕ) (ws : List Word) → Went (shape c k) 0 s [] m l ws → n ≡ m → x ≡ taken_all k ws no_fields → (f : Line) → Same s f (S.reads c k ws l) → Reads c k x n ≡ f
  told_so m l ws o p q (Err m') t = absurd t
  told_so m l ws o p q (Ok r) t =
      let place : n ≡ r.end = p ∙ same_place m r.end o.front l o.split (omega (arith, o.place)) t.3 t.4 in
      λ i. Reads (sym t.0 i) (sym t.1 i) ((q ∙ sym t.2) i) (place i)

  by_shape : At n x ≡ to_read k (scanned c k s) → Reads c k x n ≡ first_line s
  by_shape e = go (scanned c k s) (outcome (shape c k) 0 s []) e
    where
      go : (r : Scan) → Outcome (shape c k) 0 s [] r → At n x ≡ to_read k r → Reads c k x n ≡ first_line s
      go (stuck m) o e =
          let z : ◌≡◌ {A = ℕ} 0 1 = cc in
          absurd (omega arith)
      go (at m l ws) o e =
          let z : ◌≡◌ {A = Cursor} (record { at = n; fields = x }) (record { at = m; fields = taken_all k ws no_fields }) = cc in
          let p : n ≡ m = ap (λ (c : Cursor). c.at) z in
          let q : x ≡ taken_all k ws no_fields = ap (λ (c : Cursor). c.fields) z in
          let line : S.line_at s ≡ S.reads c k ws l = ap S.line_at o.split ∙ line_reads c k known o.line l ∙ ap (λ (ws : List Word). S.reads c k ws l) (sym o.more) in
          told_so m l ws o p q (first_line s) (subst (Same s (first_line s)) line (told s))

-- A GUESS that reads the line is right
pub guessed : (s : List ℕ) (p : ℕ) → p ≡ prefix s → (k : ℕ) → k < 48 → (n : ℕ) (x : Fields) → At n x ≡ read_by (cond (eqb p 2) 2 0) s k → Reads (eqb p 2) k x n ≡ first_line s
guessed s p e k known n x h = go (eqb p 2) (ap (λ (p : ℕ). eqb p 2) (sym e)) h
  where
    go : (t : Bool) → eqb (prefix s) 2 ≡ t → At n x ≡ read_by (cond t 2 0) s k → Reads t k x n ≡ first_line s
    go false q h = by_shape s false k known n x (h ∙ from_alike k s 0)
    go true q h = by_shape s true k known n x (h ∙ sym (ap (λ (t : Bool). cond t (read_by 2 s k) (Stuck (prefix s))) q) ∙ short_alike k s)
