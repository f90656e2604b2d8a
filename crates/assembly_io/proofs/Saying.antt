-- What is said stands in the room: an output is no longer than its text, so a room of the text's length is never too short.
use mathlib.Core.Path.{◌≡◌, refl, ap, sym, ◌∙◌, subst}
use mathlib.Core.Bool.{Bool, true, false, cond}
use mathlib.Core.List.{List}
use Prim.Native.Nat.{ℕ, ◌≤◌, ◌<◌}
use native.Mathlib.Omega.{arith}
use borrow.Author.Tests.{le-leb, lt-leb, leb-true}
use Rattle.std.specs.Prelude.{Err, Ok}
use lib.Dec.{leb}
use lib.ListN.{length, length-append}
use Rattle.answers.specs.Outcomes.{Outcome, outcome, decided}
use Rattle.answers.specs.Refusals.{number_of}
use Rattle.answers.specs.declared.Refusal.{Refusal}
use Rattle.answers.proofs.Numbers.{refusal-numbered}
use Rattle.ascii.specs.Ascii.{bytes}
use Rattle.ascii.specs.Numbers.{decimal}
use Rattle.ascii.specs.Rooms.{Wrote, fronted}
use Rattle.ascii.proofs.Numbers.{decimal_bound}
use Rattle.ascii.proofs.Rooms.{at_front}
use Rattle.assembly.specs.Assembly.{Assembly, output, fault, assembled}
use Rattle.assembler.specs.declared.LineFault.{LineFault}
use Rattle.assembler.specs.Entry.{Assembled, refused_line, entry_of, assemble_entry}
use Rattle.assembler.proofs.Lines.{output-short}
use Rattle.assembly_io.specs.declared.Said.{Said}
use Rattle.assembly_io.specs.declared.Said.TheVariants.{Output, Error}
use Rattle.assembly_io.specs.Saying.{to_error, complaint, said_of, in_room, saying}

pub complaint-short : (r : Refusal) → length (decimal (number_of r)) ≤ 2
complaint-short r = decimal_bound 1 (number_of r) (omega (arith, (refusal-numbered r).2))

complaint-long : (r : Refusal) → length (complaint r) ≤ 3
unfolding complaint
complaint-long r = omega (arith, length-append (decimal (number_of r)) (bytes "\n"), complaint-short r)

-- ---- what is said

-- a line that was written from 0 on
heard : {room line after : List ℕ} {n : ℕ} → Wrote room 0 line after n → length line ≤ length room → outcome (Error n) after ≡ in_room (to_error line) room
heard w h =
    let f = at_front w h in
    λ i. outcome (Error (f.1 i)) (f.0 i)

module _ (text room : List ℕ) (r₀ : 65536 ≤ length room) where
  pub too_long : (after : List ℕ) (n : ℕ) → 65536 < length text → Wrote room 0 (bytes "too long\n") after n → outcome (Error n) after ≡ saying text room
  unfolding saying
  too_long after n h w = rw (lt-leb (length text) 65536 h) (heard w (omega arith))

  module _ (l : length text ≤ 65536) (a : Assembled) (after : List ℕ) (e : outcome a after ≡ assemble_entry text room) where
    -- what the entry answers and leaves, by what the lines come to
    faulted : (r : Refusal) (k p : ℕ) → assembled text ≡ fault r k p → outcome a after ≡ outcome (refused_line r k p) room
    unfolding decided
    faulted r k p q = e ∙ ap (λ (x : Assembly). entry_of x room) q

    filled : (out : List ℕ) → assembled text ≡ output out → outcome a after ≡ outcome (Ok (length out)) (fronted out room)
    unfolding decided
    filled out q = rw (le-leb (length out) (length room) (omega (arith, output-short text out q))) at (e ∙ ap (λ (x : Assembly). entry_of x room) q)

    pub all-given : (n : ℕ) → a ≡ Ok n → outcome (Output n) after ≡ saying text room
    unfolding saying
    all-given n q = rw (le-leb (length text) 65536 l) (go (assembled text) refl)
      where
        go : (x : Assembly) → assembled text ≡ x → outcome (Output n) after ≡ in_room (said_of x) room
        go (fault r k p) z =
            let w : Ok n ≡ refused_line r k p = sym q ∙ ap (λ (o : Outcome Assembled (List ℕ)). o.answer) (faulted r k p z) in
            let c : ◌≡◌ {A = ℕ} 0 1 = cc in
            absurd (omega arith)
        go (output out) z =
            let y = filled out z in
            let w : Ok n ≡ Ok (length out) = sym q ∙ ap (λ (o : Outcome Assembled (List ℕ)). o.answer) y in
            let m : n ≡ length out = cc in
            λ i. outcome (Output (m i)) (y i).lent

    -- refused, the room is as it was
    pub kept : (f : LineFault) → a ≡ Err f → (after ≡ room) × (said_of (assembled text) ≡ to_error (complaint f.refusal))
    kept f q = go (assembled text) refl
      where
        go : (x : Assembly) → assembled text ≡ x → (after ≡ room) × (said_of (assembled text) ≡ to_error (complaint f.refusal))
        go (fault s j o) z =
            let y = faulted s j o z in
            let w : Err f ≡ refused_line s j o = sym q ∙ ap (λ (o : Outcome Assembled (List ℕ)). o.answer) y in
            let x : f ≡ record { refusal = s; line = j; byte = o } = cc in
            let m : f.refusal ≡ s = ap (λ (f : LineFault). f.refusal) x in
            (ap (λ (o : Outcome Assembled (List ℕ)). o.lent) y, ap said_of z ∙ ap (λ (r : Refusal). to_error (complaint r)) (sym m))
        go (output out) z =
            let w : Err f ≡ Ok (length out) = sym q ∙ ap (λ (o : Outcome Assembled (List ℕ)). o.answer) (filled out z) in
            let c : ◌≡◌ {A = ℕ} 0 1 = cc in
            absurd (omega arith)

    pub complained : (f : LineFault) → a ≡ Err f → (last : List ℕ) (n : ℕ) → Wrote after 0 (complaint f.refusal) last n → outcome (Error n) last ≡ saying text room
    unfolding saying
    complained f q last n w =
        let s = kept f q in
        rw (le-leb (length text) 65536 l, s.1) (heard (subst (λ (l : List ℕ). Wrote l 0 (complaint f.refusal) last n) s.0 w) (omega (arith, complaint-long f.refusal)))

-- ---- what was said lies in a room of 65,536 bytes

abbrev pub size : Said → ℕ
size (Output n) = n
size (Error n) = n

pub said-short : (text room : List ℕ) (s : Said) (after : List ℕ) → outcome s after ≡ saying text room → size s ≤ 65536
unfolding saying
said-short text room s after e = subst (λ (o : Outcome Said (List ℕ)). size o.answer ≤ 65536) (sym e) (go (leb (length text) 65536) refl)
  where
    lines : length text ≤ 65536 → (x : Assembly) → assembled text ≡ x → size (in_room (said_of x) room).answer ≤ 65536
    lines h (output out) q = omega (arith, output-short text out q)
    lines h (fault r k p) q = omega (arith, complaint-long r)

    go : (t : Bool) → leb (length text) 65536 ≡ t → size (in_room (cond t (said_of (assembled text)) (to_error (bytes "too long\n"))) room).answer ≤ 65536
    go true h = lines (leb-true (length text) 65536 h) (assembled text) refl
    go false h = omega arith
