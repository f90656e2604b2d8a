-- The promises of the assembler: its entry answers by what the lines come to, and the lines are those of the disassembler.
use mathlib.Core.Path.{◌≡◌, refl, ap, sym, ◌∙◌, subst}
use mathlib.Core.Logic.{◌↔◌, ◌⊎◌, inl, inr, ⊎_elim}
use mathlib.Core.List.{List, [], ◌++◌, append-nil}
use Prim.Native.Nat.{ℕ, ◌≤◌, ◌<◌}
use native.Mathlib.Omega.{arith}
use borrow.Author.Tests.{le-leb, lt-leb, ne_eqb}
use lib.ListN.{length, drop, length-append, length-drop}
use Rattle.std.specs.Prelude.{Ok}
use lib.Seq.{drop_at}
use Rattle.word.proofs.Bools.{below}
use Rattle.answers.specs.Answer.{given, refused}
use Rattle.answers.specs.Outcomes.{Outcome, outcome, decided}
use Rattle.answers.specs.Order.{refusal, no_refusal}
use Rattle.answers.specs.Refusals.{number_of}
use Rattle.answers.specs.Replies.{called_telling}
use Rattle.answers.specs.declared.Refusal.{Refusal}
use Rattle.answers.specs.declared.Refusal.TheVariants as R
use Rattle.answers.proofs.Order.{apart, same-value, RefusedBy, Says}
use Rattle.answers.proofs.Entries.{exactly, keeps_lent}
use Rattle.ascii.specs.Rooms.{fronted}
use Rattle.octets.proofs.Bytes.{length_le}
use Rattle.assembly.specs.Assembly.{Assembly, output, fault, assembled}
use Rattle.assembler.specs.declared.LineFault.{LineFault}
use Rattle.assembler.specs.Entry.{Assembled, refused_line, output_checked, placed_at, entry_of, assemble_entry, of_assembled}
use Rattle.assembler.proofs.Lines.{output-short}
use Rattle.c_assembly.specs.Assembly.{fault_of}
use Rattle.promises_assembly.specs.Assembly.{LineGives, word, half, LinesGive, none, line, Fills, Assembles, WordBack, HalfBack, LinesBack, OnlyLines, EmptyText, unreadable, wrong_number, no_half, FirstFault, here, later, NoFault, RoomSuffices, ShortRoom, RefusedAt, RefusesAt, OneFault, Faulty, AssembleRefuses, AssembleKeeps, RestStays, PlacesTold}
use Rattle.promises_assembly.proofs.Lines.{lines_give, fault_refuses, Told, told}

-- ---- the entry, by what the lines come to

module _ (room : List ℕ) where
  -- the output fits
  fitting : (out : List ℕ) → length out ≤ length room → entry_of (output out) room ≡ outcome (Ok (length out)) (fronted out room)
  unfolding decided
  fitting out h = rw (le-leb (length out) (length room) h)

  -- or it does not
  lacking : (out : List ℕ) → length room < length out → entry_of (output out) room ≡ outcome (refused_line R.OutputRoom 0 0) room
  unfolding decided
  lacking out h = rw (lt-leb (length out) (length room) h)

  faulting : (r : Refusal) (k p : ℕ) → entry_of (fault r k p) room ≡ outcome (refused_line r k p) room
  unfolding decided
  faulting r k p = refl

-- a refusal is told as its number, wherever it is placed
placed-reads : (a : Assembly) (r : Refusal) → of_assembled (placed_at a r) ≡ refused r
placed-reads (output out) r = refl
placed-reads (fault s k p) r = refl

-- ---- what is given

pub lines_back : LinesBack
lines_back text out room g h = rw (lines_give g, fitting room out h) (refl, refl)

single : {l bs : List ℕ} (room : List ℕ) → LineGives l bs → length bs ≤ length room → Fills (assemble_entry l room) bs room
single {l} {bs} room g h =
    let s : LinesGive l bs = subst (λ (t : List ℕ). LinesGive t bs) (append-nil l) (subst (LinesGive (l ++ [])) (append-nil bs) (line g none)) in
    lines_back l bs room s h

pub word_back : WordBack
word_back w i room l h e = single room (word w i l e) (rw (length_le 4 w) h)

pub half_back : HalfBack
half_back h k i room l m e s = single room (half h k i l e s) (rw (length_le 2 k) m)

pub empty_text : EmptyText
empty_text room = lines_back [] [] room none (omega arith)

-- accepted: there are such lines, and their output fits
record Fitting (text room : List ℕ) (n : ℕ) : Type 0 where
  out : List ℕ
  so : LinesGive text out
  long : length out ≡ n
  fit : n ≤ length room

accepted : (text room : List ℕ) (n : ℕ) → of_assembled (assemble_entry text room).answer ≡ given n → Fitting text room n
accepted text room n e = go (assembled text) (told text) e
  where
    go : (a : Assembly) → Told text a → of_assembled (entry_of a room).answer ≡ given n → Fitting text room n
    go (fault r k p) t e = absurd (apart (sym (rw (faulting room r k p) at e)))
    go (output out) t e = ⊎_elim (λ (h : length room < length out). absurd (apart (sym (rw (lacking room out h) at e))))
        (λ (h : length out ≤ length room). let z : length out ≡ n = same-value (rw (fitting room out h) at e) in
        record { out = out; so = t; long = z; fit = omega arith })
        (below (length room) (length out))

pub only_lines : OnlyLines
only_lines text room n e =
    let a = accepted text room n e in
    (a.out, a.so, lines_back text a.out room a.so (omega (arith, a.long, a.fit)))

pub room_suffices : RoomSuffices
room_suffices text room f h = go (assembled text) (told text) refl
  where
    go : (a : Assembly) → Told text a → assembled text ≡ a → Assembles text room
    go (fault r k p) t q = absurd (f (number_of r) k p t)
    go (output out) t q = (out, t, lines_back text out room t (omega (arith, output-short text out q)))

pub rest_stays : RestStays
rest_stays text room n e =
    let a = accepted text room n e in
    let f : (assemble_entry text room).lent ≡ fronted a.out room = (lines_back text a.out room a.so (omega (arith, a.long, a.fit))).1 in
    rw f (
      omega (arith, a.long, a.fit, length-append a.out (drop (length a.out) room), length-drop (length a.out) room),
      drop_at a.out (drop (length a.out) room) n a.long ∙ ap (λ (k : ℕ). drop k room) a.long,
    )

-- ---- refusals

refused-same : {r s : Refusal} {j k p q : ℕ} → refused_line r j p ≡ refused_line s k q → (number_of r ≡ number_of s) × (j ≡ k) × (p ≡ q)
refused-same {r} {s} {j} {k} {p} {q} e =
    let z : ◌≡◌ {A = LineFault} (record { refusal = r; line = j; byte = p }) (record { refusal = s; line = k; byte = q }) = cc in
    (ap (λ (f : LineFault). number_of f.refusal) z, ap (λ (f : LineFault). f.line) z, ap (λ (f : LineFault). f.byte) z)

fault-same : {r s : Refusal} {j k p q : ℕ} → fault r j p ≡ fault s k q → (number_of r ≡ number_of s) × (j ≡ k) × (p ≡ q)
fault-same {r} {s} e = (ap number_of (let z : r ≡ s = cc in z), cc, cc)

pub one_fault : OneFault
one_fault text m j p n k q f g =
    let a = fault_refuses f in
    let b = fault_refuses g in
    let s = fault-same (sym a.is ∙ b.is) in
    (sym a.number ∙ s.0 ∙ b.number, s.1, s.2)

-- lines that give something have no fault
no_fault : {text out : List ℕ} {n k p : ℕ} → LinesGive text out → FirstFault text n k p → ⊥
no_fault g f =
    let q = sym (lines_give g) ∙ (fault_refuses f).is in
    let z : ◌≡◌ {A = ℕ} 0 1 = cc in
    omega arith

-- and one output
one_output : {text a b : List ℕ} → LinesGive text a → LinesGive text b → a ≡ b
one_output g h =
    let q = sym (lines_give g) ∙ lines_give h in
    cc

pub refuses_at : RefusesAt
refuses_at text room n k p = (λ h. to (assembled text) (told text) h, from)
  where
    to : (a : Assembly) → Told text a → RefusedAt (entry_of a room).answer n k p → FirstFault text n k p ⊎ (ShortRoom text room × (n ≡ 13) × (k ≡ 0) × (p ≡ 0))
    to (fault r j q) t h =
        let s = refused-same (sym (ap (λ (o : _). o.answer) (faulting room r j q)) ∙ h.1) in
        inl (subst (λ (n : ℕ). FirstFault text n k p) (s.0 ∙ h.2) (subst (λ (p : ℕ). FirstFault text (number_of r) k p) s.2 (subst (λ (k : ℕ). FirstFault text (number_of r) k q) s.1 t)))
    to (output out) t h = ⊎_elim
        (λ (l : length room < length out). let s = refused-same (sym (ap (λ (o : _). o.answer) (lacking room out l)) ∙ h.1) in
        inr ((out, t, l), sym (s.0 ∙ h.2), sym s.1, sym s.2))
        (λ (l : length out ≤ length room). let q = sym (ap (λ (o : _). o.answer) (fitting room out l)) ∙ h.1 in
        let z : ◌≡◌ {A = ℕ} 0 1 = cc in
        absurd (omega arith))
        (below (length room) (length out))

    from : FirstFault text n k p ⊎ (ShortRoom text room × (n ≡ 13) × (k ≡ 0) × (p ≡ 0)) → RefusedAt (assemble_entry text room).answer n k p
    from (inl f) =
        let a = fault_refuses f in
        (a.refusal, ap (λ (a : Assembly). (entry_of a room).answer) a.is ∙ ap (λ (o : _). o.answer) (faulting room a.refusal k p), a.number)
    from (inr ((out, g, l), e, d, c)) = (
      R.OutputRoom,
      ap (λ (a : Assembly). (entry_of a room).answer) (lines_give g) ∙ ap (λ (o : _). o.answer) (lacking room out l) ∙ (λ i. refused_line R.OutputRoom (sym d i) (sym c i)),
      sym e,
    )

number-of-fault : {text : List ℕ} {n k p : ℕ} → FirstFault text n k p → (n ≡ 10) ⊎ ((n ≡ 11) ⊎ (n ≡ 12))
number-of-fault (here h (unreadable u)) = inl refl
number-of-fault (here h (wrong_number u)) = inr (inl refl)
number-of-fault (here h (no_half u)) = inr (inr refl)
number-of-fault (later g f) = number-of-fault f

-- a row that holds, and one that does not
row_holds : {Holds : Type 0} (rest : ℕ → Type 0) (k n : ℕ) → Holds → (n ≡ k) ↔ refusal k Holds rest n
row_holds rest k n h = (λ e. inl (h, e), λ s. ⊎_elim (λ x. x.1) (λ x. absurd (x.0 h)) s)

row_fails : {Holds X : Type 0} (rest : ℕ → Type 0) (k n : ℕ) → (Holds → ⊥) → X ↔ rest n → X ↔ refusal k Holds rest n
row_fails rest k n h q = (λ x. inr (h, q.0 x), λ s. ⊎_elim (λ x. absurd (h x.0)) (λ x. q.1 x.1) s)

abbrev from13 : List ℕ → List ℕ → ℕ → Type 0
from13 text room = refusal 13 (ShortRoom text room) no_refusal

abbrev from12 : List ℕ → List ℕ → ℕ → Type 0
from12 text room = refusal 12 (Faulty text 12) (from13 text room)

abbrev from11 : List ℕ → List ℕ → ℕ → Type 0
from11 text room = refusal 11 (Faulty text 11) (from12 text room)

abbrev rows : List ℕ → List ℕ → ℕ → Type 0
rows text room = refusal 10 (Faulty text 10) (from11 text room)

pub assemble_refuses : AssembleRefuses
assemble_refuses text room = exactly of_assembled (placed_at (assembled text)) (placed-reads (assembled text)) _ _ room refl (says (assembled text) (told text))
  where
    -- no fault but the one that there is
    other : (m n k p : ℕ) → FirstFault text m k p → (m ≡ n → ⊥) → Faulty text n → ⊥
    other m n k p f ne g = ne (one_fault text m k p n g.0 g.1 f g.2).0

    faulty : (m k p : ℕ) → FirstFault text m k p → (m ≡ 10) ⊎ ((m ≡ 11) ⊎ (m ≡ 12)) → (n : ℕ) → (n ≡ m) ↔ rows text room n
    faulty m k p f (inl e) n = subst (λ (m : ℕ). (n ≡ m) ↔ rows text room n) (sym e) (row_holds (from11 text room) 10 n (k, p, subst (λ (m : ℕ). FirstFault text m k p) e f))
    faulty m k p f (inr (inl e)) n =
        subst (λ (m : ℕ). (n ≡ m) ↔ rows text room n) (sym e)
        (row_fails (from11 text room) 10 n (other m 10 k p f (λ q. omega arith)) (row_holds (from12 text room) 11 n (k, p, subst (λ (m : ℕ). FirstFault text m k p) e f)))
    faulty m k p f (inr (inr e)) n =
        subst (λ (m : ℕ). (n ≡ m) ↔ rows text room n) (sym e)
        (row_fails (from11 text room) 10 n (other m 10 k p f (λ q. omega arith))
        (row_fails (from12 text room) 11 n (other m 11 k p f (λ q. omega arith)) (row_holds (from13 text room) 12 n (k, p, subst (λ (m : ℕ). FirstFault text m k p) e f))))

    says : (a : Assembly) → Told text a → Says (output_checked a room) (rows text room)
    says (fault r k p) t n = faulty (number_of r) k p t (number-of-fault t) n
    says (output out) t n =
        row_fails (from11 text room) 10 n (λ g. no_fault t g.2) (row_fails (from12 text room) 11 n (λ g. no_fault t g.2) (row_fails (from13 text room) 12 n (λ g. no_fault t g.2) (room_row (below (length room) (length out)))))
      where
        room_row : (length room < length out) ⊎ (length out ≤ length room) → RefusedBy (output_checked (output out) room) n ↔ refusal 13 (ShortRoom text room) no_refusal n
        room_row (inl l) = rw (lt-leb (length out) (length room) l) (row_holds no_refusal 13 n (out, t, l))
        room_row (inr l) = rw (le-leb (length out) (length room) l) (row_fails no_refusal 13 n (λ s. let z = ap length (one_output t s.1) in omega (arith, s.2)) ((λ x. x), λ x. x))

pub assemble_keeps : AssembleKeeps
assemble_keeps text room = keeps_lent of_assembled (placed_at (assembled text)) (placed-reads (assembled text)) _ _ room refl

-- ---- the C call

not_13 : {n : ℕ} → (n ≡ 10) ⊎ ((n ≡ 11) ⊎ (n ≡ 12)) → n ≡ 13 → ⊥
not_13 (inl e) d = omega arith
not_13 (inr (inl e)) d = omega arith
not_13 (inr (inr e)) d = omega arith

pub places_told : PlacesTold
places_told text room len j q = go (assembled text) (told text)
  where
    call : Outcome Assembled (List ℕ) → Outcome ℕ ((ℕ × (ℕ × ℕ)) × List ℕ)
    call o = called_telling of_assembled fault_of len (j, q) o

    of-line : (r : Refusal) (k p : ℕ) → (number_of r ≡ 13 → ⊥) → call (outcome (refused_line r k p) room) ≡ outcome (number_of r) ((len, (k, p)), room)
    of-line r k p h = rw (ne_eqb (number_of r) 13 h)

    go : (a : Assembly) → Told text a → let c = call (entry_of a room) in
        ((n k p : ℕ) × FirstFault text n k p × (c ≡ outcome n ((len, (k, p)), room))) ⊎ (NoFault text × ((c.answer ≡ 0) ⊎ (c.answer ≡ 13)) × (c.lent.0.1 ≡ (j, q)))
    go (fault r k p) t = inl (number_of r, k, p, t, ap call (faulting room r k p) ∙ of-line r k p (not_13 (number-of-fault t)))
    go (output out) t = ⊎_elim
        (λ (h : length room < length out). rw (lacking room out h) (inr (λ n k p f. no_fault t f, inr refl, refl)))
        (λ (h : length out ≤ length room). rw (fitting room out h) (inr (λ n k p f. no_fault t f, inl refl, refl)))
        (below (length room) (length out))
