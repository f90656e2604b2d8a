-- One line after another: a line that gives bytes is no shorter than they are, and a text is its first line and then the lines after it.
use mathlib.Core.Path.{◌≡◌, refl, ap, sym, ◌∙◌}
use mathlib.Core.List.{List, [], ◌∷◌}
use mathlib.Core.Bool.{Bool, true, false, cond}
use Prim.Native.Nat.{ℕ, zero, suc, ◌+◌, ◌≤◌, ◌<◌}
use native.Mathlib.Omega.{arith}
use lib.Dec.{T, ltb, leb, ltb→lt, leb→le}
use lib.ListN.{length, drop, length-append}
use borrow.Author.Tests.{lt-ltb}
use Rattle.word.proofs.Bools.{and_right}
use Rattle.word.proofs.Sweep.{every, at}
use Rattle.ascii.specs.Numbers.{decimal, decimal_by, signed_decimal}
use Rattle.answers.specs.declared.Refusal.{Refusal}
use Rattle.isa.specs.declared.Inst.{Inst}
use Rattle.isa.specs.Building.{built}
use Rattle.isa.specs.Encoding.{word_of}
use Rattle.isa.specs.Shortening.{shortened}
use Rattle.octets.specs.Bytes.{little_endian}
use Rattle.octets.proofs.Bytes.{length_le}
use Rattle.text.specs.Names.{names, name_at}
use Rattle.text.specs.Text.{operands_of, text_of, short_text_of}
use Rattle.assembly.specs.Lines.{Piece, shape, digits_only, minus, Word, Spelled, end, same, number}
use Rattle.assembly.specs.Scanner.{Line, reads, unreadable, line_at}
use Rattle.assembly.specs.Numbers.{Checked, right, wrong, checked}
use Rattle.assembly.specs.Assembly.{instruction, Meaning, gives, faulty, half_of, code_of, unless_wrong, meaning_of, meaning, output, fault, before, onward, assembled_by, assembled}
use Rattle.assembly.proofs.Places.{read-line}
use Rattle.isa.specs.declared.Unshortened.TheVariants as U
use Rattle.isa.specs.declared.Unshortened.{Unshortened}
use Rattle.std.specs.Prelude.{Err, Ok, Result}

-- ---- how long a line is

-- a piece is a byte or more
spelled-long : {s : List Piece} {n : ℕ} {ws : List Word} {l : List ℕ} → Spelled s n ws l → length s ≤ length l
spelled-long end = omega arith
spelled-long (same r) = omega (arith, spelled-long r)
spelled-long (number {f = f} {l = l} a h r) =
    omega (arith, spelled-long r, length-append a l, ltb→lt (minus f a) (length a) (and_right (digits_only (drop (minus f a) a)) _ h))

long : Bool → ℕ → Bool
long c k = leb 4 (length (shape c k))

computed : (c : Bool) → T (every (λ (k : ℕ). cond (ltb k 48) (long c k) true) 6 0)
unfolding long decimal decimal_by signed_decimal names name_at operands_of text_of short_text_of built shape
computed true = tt
computed false = tt

shape-long : (c : Bool) (k : ℕ) → k < 48 → 4 ≤ length (shape c k)
unfolding long
shape-long c k h = leb→le 4 (length (shape c k)) (rw (lt-ltb k 48 h) at (at (λ (k : ℕ). cond (ltb k 48) (long c k) true) 6 0 (computed c) k (omega arith) (omega arith)))

-- a code is four bytes or two
abbrev Coded : List ℕ → List ℕ → List ℕ → Type 0
Coded r bs rest = (0 < length bs) × (length bs ≤ 4) × (r ≡ rest)

code_long : (c : Bool) (i : Inst) (r bs rest : List ℕ) → code_of c i r ≡ gives bs rest → Coded r bs rest
code_long false i r bs rest e =
    let z : little_endian 4 (word_of i) ≡ bs = cc in
    let l : length bs ≡ 4 = sym (ap length z) ∙ length_le 4 (word_of i) in
    (omega arith, omega arith, cc)
code_long true i r bs rest e = go (shortened i) e
  where
    go : (s : Result ℕ Unshortened) → half_of s r ≡ gives bs rest → Coded r bs rest
    go (Ok h) e =
        let z : little_endian 2 h ≡ bs = cc in
        let l : length bs ≡ 2 = sym (ap length z) ∙ length_le 2 h in
        (omega arith, omega arith, cc)
    go (Err U.OutOfRange) e =
        let z : ◌≡◌ {A = ℕ} 0 1 = cc in
        absurd (omega arith)
    go (Err U.NoShortForm) e =
        let z : ◌≡◌ {A = ℕ} 0 1 = cc in
        absurd (omega arith)

pub gives-long : (text bs rest : List ℕ) → meaning text ≡ gives bs rest → (0 < length bs) × (length bs + length rest ≤ length text)
gives-long text bs rest e = go (line_at text) refl e
  where
    go : (l : Line) → line_at text ≡ l → meaning_of l ≡ gives bs rest → (0 < length bs) × (length bs + length rest ≤ length text)
    go (unreadable p) q e =
        let z : ◌≡◌ {A = ℕ} 0 1 = cc in
        absurd (omega arith)
    go (reads c k ws r) q e = by (checked k ws) e
      where
        by : (x : Checked) → unless_wrong x (code_of c (instruction k ws) r) ≡ gives bs rest → (0 < length bs) × (length bs + length rest ≤ length text)
        by (wrong n) e =
            let z : ◌≡◌ {A = ℕ} 0 1 = cc in
            absurd (omega arith)
        by right e =
            let l = read-line text c k ws r q in
            let h = code_long c (instruction k ws) r bs rest e in (
              h.0,
              omega (arith, h.1, ap length h.2, ap length l.split, length-append l.line r, spelled-long l.spelled, shape-long c k l.known),
            )

-- ---- one line more

fuel : (m n : ℕ) (text : List ℕ) → length text ≤ m → length text ≤ n → assembled_by m text ≡ assembled_by n text
unfolding assembled_by
fuel zero zero text h g = refl
fuel zero (suc n) [] h g = refl
fuel zero (suc n) (b ∷ text) h g = absurd (omega arith)
fuel (suc m) zero [] h g = refl
fuel (suc m) zero (b ∷ text) h g = absurd (omega arith)
fuel (suc m) (suc n) [] h g = refl
fuel (suc m) (suc n) (b ∷ text) h g = go (fuel m n) (meaning (b ∷ text)) refl
  where
    go : ((rest : List ℕ) → length rest ≤ m → length rest ≤ n → assembled_by m rest ≡ assembled_by n rest) → (a : Meaning) → meaning (b ∷ text) ≡ a
        → onward (assembled_by m) a ≡ onward (assembled_by n) a
    go ih (faulty r p) e = refl
    go ih (gives bs rest) e =
        let l = gives-long (b ∷ text) bs rest e in
        ap (before bs) (ih rest (omega (arith, l.0, l.1)) (omega (arith, l.0, l.1)))

pub nothing : assembled [] ≡ output []
unfolding assembled_by assembled
nothing = refl

-- a line that gives bytes, and one that is at fault
pub line_then : (text bs rest : List ℕ) → meaning text ≡ gives bs rest → assembled text ≡ before bs (assembled rest)
unfolding assembled_by assembled
line_then [] bs rest e = let l = gives-long [] bs rest e in absurd (omega (arith, l.0, l.1))
line_then (b ∷ text) bs rest e =
    let l = gives-long (b ∷ text) bs rest e in
    ap (onward (assembled_by (length text))) e ∙ ap (before bs) (fuel (length text) (length rest) rest (omega (arith, l.0, l.1)) (omega arith))

pub line-faulty : (text : List ℕ) (r : Refusal) (p : ℕ) → 0 < length text → meaning text ≡ faulty r p → assembled text ≡ fault r 0 p
unfolding assembled_by assembled
line-faulty [] r p h e = absurd (omega arith)
line-faulty (b ∷ text) r p h e = ap (onward (assembled_by (length text))) e
