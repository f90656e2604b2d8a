-- The reader finds what the definition says.
use Rattle.std.specs.Prelude.{Ok, Err}
use mathlib.Core.Path.{◌≡◌, refl, ap, sym, ◌∙◌, subst}
use mathlib.Core.List.{List, [], ◌∷◌, ◌++◌}
use mathlib.Core.Bool.{Bool, true, false, cond}
use Prim.Native.Nat.{ℕ, zero, suc, ◌+◌, ◌≤◌, ◌<◌}
use native.Mathlib.Omega.{arith}
use native.Mathlib.Numerals.{add-one}
use lib.Dec.{eqb, ltb}
use lib.ListN.{length, take, drop, length-append}
use mathlib.Core.Logic.{⊎_elim}
use lib.Seq.{drop-drop, drop_at}
use borrow.Author.Tests.{lt-ltb, le-ltb}
use Rattle.word.proofs.Bools.{below}
use Rattle.text.specs.Text.{text_of, short_text_of}
use Rattle.text.specs.Samples.{sample}
use Rattle.assembly.specs.Lines.{Piece, byte, field, piece_of, pieces, shape, minus, Word, word}
use Rattle.assembly.specs.Scanner.{Scan, at, stuck, numeral, over, scan}
use Rattle.assembly.specs.Scanner as S
use Rattle.assembly.proofs.Scanning.{stays, Outcome, outcome}
use Rattle.reader.specs.declared.Fields.{Fields}
use Rattle.text.specs.Samples.{sample_line}
use Rattle.reader.specs.Reading.{At, Stuck, Read, no_fields, taken, over_piece, along}
use Rattle.reader.specs.Line.{Unreadable, Line, taken_all, line_of, furthest, read_by, among_from, prefix, colon, first_line, Same}
use Rattle.reader.proofs.Following.{stays as along-stays}

-- ---- by one shape

abbrev pub to_read : ℕ → Scan → Read
to_read k (at n l ws) = At n (taken_all k ws no_fields)
to_read k (stuck n) = Stuck n

taken_last : (k : ℕ) (ws : List Word) (w : Word) (x : Fields) → taken_all k (ws ++ (w ∷ [])) x ≡ taken k w (taken_all k ws x)
unfolding taken_all
taken_last k [] w x = refl
taken_last k (v ∷ ws) w x = taken_last k ws w (taken k v x)

abbrev mapped : List ℕ → List Piece
mapped [] = []
mapped (b ∷ q) = piece_of b ∷ mapped q

tail_of : (s : List ℕ) (n c : ℕ) (l : List ℕ) → drop n s ≡ c ∷ l → l ≡ drop (suc n) s
tail_of s n c l e = sym (ap (drop 1) e) ∙ drop-drop 1 n s ∙ ap (λ (k : ℕ). drop k s) (add-one n)

-- one piece, where the rest goes alike
module _ (k : ℕ) (s : List ℕ) (q : List ℕ) (ps : List Piece)
    (more : (n : ℕ) (ws : List Word) → along k q s (At n (taken_all k ws no_fields)) ≡ to_read k (scan ps (at n (drop n s) ws))) where
  stopped : (n : ℕ) → along k q s (Stuck n) ≡ to_read k (scan ps (stuck n))
  stopped n = along-stays k q s n ∙ sym (ap (to_read k) (stays ps n))

  byte_alike : (b n : ℕ) (ws : List Word) (l : List ℕ) → drop n s ≡ l
      → along k q s (over_piece k (byte b) l n (taken_all k ws no_fields)) ≡ to_read k (scan ps (over (byte b) n l ws))
  unfolding over_piece
  byte_alike b n ws [] e = stopped n
  byte_alike b n ws (c ∷ l) e = go (eqb c b)
    where
      go : (t : Bool) → along k q s (cond t (At (n + 1) (taken_all k ws no_fields)) (Stuck n)) ≡ to_read k (scan ps (cond t (at (suc n) l ws) (stuck n)))
      go true =
          ap (λ (m : ℕ). along k q s (At m (taken_all k ws no_fields))) (add-one n) ∙ more (suc n) ws
          ∙ ap (λ (l : List ℕ). to_read k (scan ps (at (suc n) l ws))) (sym (tail_of s n c l e))
      go false = stopped n

  alike : (p : Piece) (n : ℕ) (ws : List Word)
      → along k q s (over_piece k p (drop n s) n (taken_all k ws no_fields)) ≡ to_read k (scan ps (over p n (drop n s) ws))
  unfolding over_piece
  alike (byte b) n ws = byte_alike b n ws (drop n s) refl
  alike (field f) n ws = go (ltb (minus f l) m)
    where
      l : List ℕ
      l = drop n s

      m : ℕ
      m = numeral f l

      w : Word
      w = word f n (take m l)

      go : (t : Bool) → along k q s (cond t (At (n + m) (taken k w (taken_all k ws no_fields))) (Stuck (n + m)))
          ≡ to_read k (scan ps (cond t (at (n + m) (drop m l) (ws ++ (w ∷ []))) (stuck (n + m))))
      go true =
          ap (λ (x : Fields). along k q s (At (n + m) x)) (sym (taken_last k ws w no_fields)) ∙ more (n + m) (ws ++ (w ∷ []))
          ∙ ap (λ (l : List ℕ). to_read k (scan ps (at (n + m) l (ws ++ (w ∷ []))))) (sym (drop-drop m n s))
      go false = stopped (n + m)

reads_alike : (k : ℕ) (s q : List ℕ) (n : ℕ) (ws : List Word) → along k q s (At n (taken_all k ws no_fields)) ≡ to_read k (scan (mapped q) (at n (drop n s) ws))
unfolding along scan
reads_alike k s [] n ws = refl
reads_alike k s (b ∷ q) n ws = alike k s q (mapped q) (λ n ws. reads_alike k s q n ws) (piece_of b) n ws

pieces-line : (t : List ℕ) → pieces t ≡ mapped (t ++ (10 ∷ []))
pieces-line [] = refl
pieces-line (b ∷ t) = ap (λ (q : List Piece). piece_of b ∷ q) (pieces-line t)

-- from a place on, with no number yet
pub from_alike : (k : ℕ) (s : List ℕ) (n : ℕ) → read_by n s k ≡ to_read k (scan (shape false k) (at n (drop n s) []))
unfolding shape sample_line taken_all
from_alike k s n = reads_alike k s (sample_line k) n [] ∙ ap (λ (q : List Piece). to_read k (scan q (at n (drop n s) []))) (sym (pieces-line (text_of (sample k))))

-- with c: in front
pub short_alike : (k : ℕ) (s : List ℕ) → cond (eqb (prefix s) 2) (read_by 2 s k) (Stuck (prefix s)) ≡ to_read k (scan (shape true k) (at 0 s []))
unfolding shape short_text_of scan
short_alike k [] = sym (ap (to_read k) (stays (pieces (text_of (sample k))) 0))
short_alike k (b ∷ l) = go (eqb b 99) l refl
  where
    stopped : (n : ℕ) → Stuck n ≡ to_read k (scan (pieces (text_of (sample k))) (stuck n))
    stopped n = sym (ap (to_read k) (stays (pieces (text_of (sample k))) n))

    two : (c : ℕ) (m : List ℕ) → l ≡ c ∷ m → (t : Bool)
        → cond (eqb (cond t 2 1) 2) (read_by 2 (b ∷ l) k) (Stuck (cond t 2 1)) ≡ to_read k (scan (pieces (text_of (sample k))) (cond t (at 2 m []) (stuck 1)))
    two c m e true = from_alike k (b ∷ l) 2 ∙ ap (λ (x : List ℕ). to_read k (scan (shape false k) (at 2 (drop 1 x) []))) e
    two c m e false = stopped 1

    go : (t : Bool) (m : List ℕ) → l ≡ m
        → cond (eqb (cond t (colon m) 0) 2) (read_by 2 (b ∷ l) k) (Stuck (cond t (colon m) 0))
        ≡ to_read k (scan (byte 58 ∷ pieces (text_of (sample k))) (cond t (at 1 m []) (stuck 0)))
    go false m e = stopped 0
    go true [] e = stopped 1
    go true (c ∷ m) e = two c m e (eqb c 58)

-- ---- by all

abbrev pub scanned : Bool → ℕ → List ℕ → Scan
scanned c k s = scan (shape c k) (at 0 s [])

line_same : (c : Bool) (k : ℕ) (s : List ℕ) → Same s (line_of c k (to_read k (scanned c k s))) (S.line_of c k (scanned c k s))
line_same c k s = go (scanned c k s) (outcome (shape c k) 0 s [])
  where
    go : (r : Scan) → Outcome (shape c k) 0 s [] r → Same s (line_of c k (to_read k r)) (S.line_of c k r)
    go (stuck n) o = refl
    go (at n l ws) o = (
      refl,
      refl,
      refl,
      sym (ap (drop n) o.split ∙ drop_at o.front l n (omega (arith, o.place))),
      omega (arith, o.place, ap length o.split, length-append o.front l),
    )

furthest-same : (s : List ℕ) (a b : Line) (a' b' : S.Line) → Same s a a' → Same s b b' → Same s (furthest a b) (S.furthest a' b')
furthest-same s (Ok r) b (S.reads d j ws l) b' p q = p
furthest-same s (Ok r) b (S.unreadable m) b' p q = absurd p
furthest-same s (Err n) b (S.reads d j ws l) b' p q = absurd p
furthest-same s (Err n) (Ok r) (S.unreadable n') (S.reads d j ws l) p q = q
furthest-same s (Err n) (Ok r) (S.unreadable n') (S.unreadable m') p q = absurd q
furthest-same s (Err n) (Err m) (S.unreadable n') (S.reads d j ws l) p q = absurd q
furthest-same s (Err n) (Err m) (S.unreadable n') (S.unreadable m') p q = λ i. cond (ltb (p i) (q i)) (q i) (p i)

among_same : (c : Bool) (from : ℕ) (n : ℕ) (s : List ℕ) → ((k : ℕ) → read_by from s k ≡ to_read k (scanned c k s)) → Same s (among_from c from n s) (S.among c n s)
unfolding among_from S.among
among_same c from zero s h = refl
among_same c from (suc k) s h =
    furthest-same s (among_from c from k s) (line_of c k (read_by from s k)) (S.among c k s) (S.line_of c k (scanned c k s)) (among_same c from k s h)
    (subst (λ (r : Read). Same s (line_of c k r) (S.line_of c k (scanned c k s))) (sym (h k)) (line_same c k s))

-- no c: in front: every shape with it is stuck alike
none-short : (n : ℕ) (s : List ℕ) → eqb (prefix s) 2 ≡ false → S.among true (suc n) s ≡ S.unreadable (prefix s)
unfolding S.among
none-short n s e = go n
  where
    is_stuck : (k : ℕ) (r : Scan) → Stuck (prefix s) ≡ to_read k r → S.line_of true k r ≡ S.unreadable (prefix s)
    is_stuck k (at m l ws) q =
        let z : ◌≡◌ {A = ℕ} 0 1 = cc in
        absurd (omega arith)
    is_stuck k (stuck m) q =
        let z : prefix s ≡ m = cc in
        ap S.unreadable (sym z)

    one : (k : ℕ) → S.line_of true k (scanned true k s) ≡ S.unreadable (prefix s)
    one k = is_stuck k (scanned true k s) (sym (ap (λ (t : Bool). cond t (read_by 2 s k) (Stuck (prefix s))) e) ∙ short_alike k s)

    largest : (m p : ℕ) → m ≤ p → S.furthest (S.unreadable m) (S.unreadable p) ≡ S.unreadable p
    largest m p h = ⊎_elim (λ (l : m < p). rw (lt-ltb m p l)) (λ (l : p ≤ m). rw (le-ltb m p l) (let z : m ≡ p = omega arith in ap S.unreadable z)) (below m p)

    go : (n : ℕ) → S.furthest (S.among true n s) (S.line_of true n (scanned true n s)) ≡ S.unreadable (prefix s)
    go zero = rw (one 0) (largest 0 (prefix s) (omega arith))
    go (suc n) = rw (one (suc n), go n) (largest (prefix s) (prefix s) (omega arith))

-- THE READER TELLS THE FIRST LINE
pub told : (s : List ℕ) → Same s (first_line s) (S.line_at s)
unfolding first_line
told s =
    furthest-same s (among_from false 0 48 s) (cond (eqb (prefix s) 2) (among_from true 2 48 s) (Unreadable (prefix s))) (S.among false 48 s) (S.among true 48 s)
    (among_same false 0 48 s (λ k. from_alike k s 0)) (go (eqb (prefix s) 2) refl)
  where
    go : (t : Bool) → eqb (prefix s) 2 ≡ t → Same s (cond t (among_from true 2 48 s) (Unreadable (prefix s))) (S.among true 48 s)
    go true e = among_same true 2 48 s (λ k. sym (ap (λ (t : Bool). cond t (read_by 2 s k) (Stuck (prefix s))) e) ∙ short_alike k s)
    go false e = rw (none-short 47 s e)
