-- One line of a pass, for both passes.
use mathlib.Core.Path.{◌≡◌, refl, sym, ap, ◌∙◌, subst}
use mathlib.Core.List.{List, [], ◌∷◌, ◌++◌}
use Prim.Native.Nat.{ℕ, suc, ◌+◌, ◌-◌, ◌≤◌, ◌<◌}
use native.Mathlib.Omega.{arith}
use borrow.Author.Tests.{le-leb, lt-leb}
use lib.ListN.{length, take, drop, length-append, length-drop}
use Rattle.std.specs.Prelude.{Ok, Err, Some, None}
use lib.Seq.{sets-eq, take_all}
use Rattle.answers.specs.Outcomes.{outcome, decided}
use Rattle.answers.specs.declared.Refusal.TheVariants as R
use Rattle.ascii.specs.Rooms.{Wrote}
use Rattle.ascii.proofs.Rooms.{then, nothing, at_front}
use Rattle.octets.specs.Bytes.{little_endian, store}
use Rattle.octets.specs.Widths.{width_bytes}
use Rattle.octets.specs.declared.Width.{Width}
use Rattle.octets.specs.declared.Width.TheVariants.{One, Two, Four}
use Rattle.octets.proofs.Bytes.{length_le, length-store}
use Rattle.assembly.specs.Assembly.{Assembly, output, fault, before, assembled}
use Rattle.assembly.proofs.Steps.{gives-long, line_then, line-faulty}
use Rattle.assembly.proofs.Steps as steps
use Rattle.coder.specs.declared.Code.{Code}
use Rattle.coder.specs.declared.Fault.{Fault}
use Rattle.coder.specs.Coding.{Coded, code_line}
use Rattle.coder.proofs.Meaning.{line-meant}
use Rattle.assembler.specs.declared.LineFault.{LineFault}
use Rattle.assembler.specs.Entry.{Assembled, refused_line, bytes_of, entry_of, assemble_entry}
use Rattle.assembler.specs.Passes.{measured, Fits, Turn}

-- ---- a turn, as the coder tells it of the text in front

module _ (text : List ℕ) (r : Coded) (told : r ≡ code_line text) where
  pub code_turn : (c : Code) → r ≡ Ok c → (c.end ≤ length text) × Turn text (Some (Ok c)) (take (length text - c.end) (drop c.end text))
  code_turn c q =
      let m = line-meant text (Ok c) (sym q ∙ told) in
      let bs : List ℕ = little_endian (width_bytes c.width) c.bits in
      let rest : List ℕ = drop c.end text in
      let g = gives-long text bs rest (sym m.0) in
      let whole : take (length text - c.end) rest ≡ rest = take_all (length text - c.end) rest (omega (arith, length-drop c.end text)) in
      (m.1.1, subst (Turn text (Some (Ok c))) (sym whole) (omega (arith, g.1, length_le (width_bytes c.width) c.bits), line_then text bs rest (sym m.0)))

  pub fault_turn : (f : Fault) → r ≡ Err f → 0 < length text → assembled text ≡ fault f.refusal 0 f.byte
  fault_turn f q some = line-faulty text f.refusal f.byte some (sym (line-meant text (Err f) (sym q ∙ told)).0)

pub sized : (w : Width) → 0 < width_bytes w
sized One = omega arith
sized Two = omega arith
sized Four = omega arith

ended : {text : List ℕ} → text ≡ [] → assembled text ≡ output []
ended e = ap assembled e ∙ steps.nothing

-- an empty text gives nothing, in any room
pub nothing-given : (text room : List ℕ) → length text ≡ 0 → outcome (Ok 0) room ≡ assemble_entry text room
unfolding decided
nothing-given [] room h = rw (ended {text = []} refl, le-leb 0 (length room) (omega arith))
nothing-given (b ∷ text) room h = absurd (omega arith)

-- ---- the first pass

measured-before : (n l : ℕ) (bs : List ℕ) (a : Assembly) → measured n l (before bs a) ≡ measured (n + length bs) (l + 1) a
measured-before n l bs (output more) =
    let z : n + length (bs ++ more) ≡ n + length bs + length more = omega (arith, length-append bs more) in
    ap Ok z
measured-before n l bs (fault r k p) =
    let z : l + suc k ≡ l + 1 + k = omega arith in
    ap (λ (k : ℕ). refused_line r k p) z

module _ (text rest : List ℕ) (n l : ℕ) where
  pub measures_on : (c : Code) → Turn text (Some (Ok c)) rest → measured n l (assembled text) ≡ measured (n + width_bytes c.width) (l + 1) (assembled rest)
  measures_on c t =
      ap (measured n l) t.1 ∙ measured-before n l (little_endian (width_bytes c.width) c.bits) (assembled rest)
      ∙ ap (λ (k : ℕ). measured (n + k) (l + 1) (assembled rest)) (length_le (width_bytes c.width) c.bits)

  pub measures_end : Turn text None rest → Ok n ≡ measured n l (assembled text)
  measures_end t =
      let z : n ≡ n + 0 = omega arith in
      ap Ok z ∙ sym (ap (measured n l) (ended t))

-- ---- the second pass

-- what a store writes
stored : (size a v : ℕ) (room : List ℕ) → a + size ≤ length room → Wrote room a (little_endian size v) (store size a v room) (a + size)
unfolding store
stored size a v room h =
    let e = length_le size v in
    record {
      room = sym (sets-eq (little_endian size v) room a (omega arith) ∙ ap (λ (k : ℕ). take a room ++ little_endian size v ++ drop (a + k) room) e);
      next = ap (λ (k : ℕ). a + k) (sym e);
    }

fits-before : (size n : ℕ) (bs : List ℕ) (a : Assembly) → Fits size n (before bs a) → (Fits size (n + length bs) a) × (bytes_of (before bs a) ≡ bs ++ bytes_of a)
fits-before size n bs (output more) h = (omega (arith, length-append bs more), refl)
fits-before size n bs (fault r k p) h = absurd h

-- what is written from here on is what is left to write
abbrev pub Left : List ℕ → List ℕ → List ℕ → List ℕ → ℕ → Type 0
Left text room₀ room rest n =
    (length room ≡ length room₀) × Fits (length room₀) n (assembled rest)
    × ((r : List ℕ) (m : ℕ) → Wrote room n (bytes_of (assembled rest)) r m → Wrote room₀ 0 (bytes_of (assembled text)) r m)

module _ (text room₀ room rest more : List ℕ) (n : ℕ) (left : Left text room₀ room rest n) where
  module _ (c : Code) (t : Turn rest (Some (Ok c)) more) where
    bs : List ℕ
    bs = little_endian (width_bytes c.width) c.bits

    fitting : (Fits (length room₀) (n + width_bytes c.width) (assembled more)) × (bytes_of (assembled rest) ≡ bs ++ bytes_of (assembled more))
    unfolding bs
    fitting =
        let f = fits-before (length room₀) n bs (assembled more) (subst (Fits (length room₀) n) t.1 left.1) in
        (subst (λ (k : ℕ). Fits (length room₀) (n + k) (assembled more)) (length_le (width_bytes c.width) c.bits) f.0, ap bytes_of t.1 ∙ f.1)

    -- there is room for the line
    pub fits-here : n + width_bytes c.width ≤ length room
    fits-here = go (assembled more) fitting.0
      where
        go : (a : Assembly) → Fits (length room₀) (n + width_bytes c.width) a → n + width_bytes c.width ≤ length room
        go (output out) h = omega (arith, left.0)
        go (fault r k p) h = absurd h

    pub left_after : (after : List ℕ) → after ≡ store (width_bytes c.width) n c.bits room → Left text room₀ after more (n + width_bytes c.width)
    unfolding bs
    left_after after e =
        let w : Wrote room n bs after (n + width_bytes c.width) = subst (λ (l : List ℕ). Wrote room n bs l (n + width_bytes c.width)) (sym e) (stored (width_bytes c.width) n c.bits room fits-here) in (
          ap length e ∙ length-store (width_bytes c.width) n c.bits room fits-here ∙ left.0,
          fitting.0,
          λ r m o. left.2 r m (subst (λ (l : List ℕ). Wrote room n l r m) (sym fitting.1) (then w o)),
        )

  pub left-none : Turn rest None more → Wrote room₀ 0 (bytes_of (assembled text)) room n
  left-none t = left.2 room n (subst (λ (l : List ℕ). Wrote room n l room n) (sym (ap bytes_of (ended t))) (nothing room n))

-- ---- the entry

module _ (text room : List ℕ) where
  pub refused-line : (m : Assembled) → m ≡ measured 0 0 (assembled text) → (f : LineFault) → m ≡ Err f → outcome m room ≡ assemble_entry text room
  unfolding decided
  refused-line m e f q = go (assembled text) refl
    where
      go : (a : Assembly) → assembled text ≡ a → outcome m room ≡ entry_of a room
      go (output out) z =
          let y : ◌≡◌ {A = ℕ} 0 1 = cc in
          absurd (omega arith)
      go (fault r k p) z =
          let y : 0 + k ≡ k = omega arith in
          ap (λ (m : Assembled). outcome m room) (e ∙ ap (measured 0 0) z ∙ ap (λ (k : ℕ). refused_line r k p) y)

  module _ (m : Assembled) (e : m ≡ measured 0 0 (assembled text)) (n : ℕ) (q : m ≡ Ok n) where
    -- the lines give n bytes
    pub lengthened : (out : List ℕ) × (assembled text ≡ output out) × (length out ≡ n)
    lengthened = go (assembled text) refl
      where
        go : (a : Assembly) → assembled text ≡ a → (out : List ℕ) × (assembled text ≡ output out) × (length out ≡ n)
        go (fault r k p) z =
            let y : ◌≡◌ {A = ℕ} 0 1 = cc in
            absurd (omega arith)
        go (output out) z =
            let y : Ok n ≡ Ok (0 + length out) = sym q ∙ e ∙ ap (measured 0 0) z in
            let x : n ≡ 0 + length out = cc in
            (out, z, omega arith)

    pub small_room : length room < n → outcome (refused_line R.OutputRoom 0 0) room ≡ assemble_entry text room
    unfolding decided
    small_room h =
        let o = lengthened in
        rw (o.1, lt-leb (length o.0) (length room) (omega (arith, o.2)))

    pub filled-room : n ≤ length room → (r : ℕ) (after : List ℕ) → Wrote room 0 (bytes_of (assembled text)) after r → outcome (Ok r) after ≡ assemble_entry text room
    unfolding decided
    filled-room h r after w =
        let o = lengthened in
        let f = at_front (subst (λ (a : Assembly). Wrote room 0 (bytes_of a) after r) o.1 w) (omega (arith, o.2)) in
        rw (o.1, le-leb (length o.0) (length room) (omega (arith, o.2)), f.0, f.1)
