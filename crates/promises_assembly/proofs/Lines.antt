-- Lines in the paper's words and what they come to, both ways.
use mathlib.Core.Path.{◌≡◌, refl, ap, sym, ◌∙◌, subst}
use mathlib.Core.Logic.{◌⊎◌, inl, inr}
use mathlib.Core.List.{List, [], ◌∷◌, ◌++◌, append_assoc}
use mathlib.Core.Bool.{Bool, true, false}
use Prim.Native.Nat.{ℕ}
use native.Mathlib.Omega.{arith}
use Rattle.answers.specs.Answer.{given}
use Rattle.answers.specs.Refusals.{number_of}
use Rattle.answers.specs.declared.Refusal.{Refusal}
use Rattle.answers.specs.declared.Refusal.TheVariants as R
use Rattle.isa.specs.declared.Inst.{Inst}
use Rattle.isa.specs.Answers.{of_decoded}
use Rattle.isa.specs.Decoding.{decoded}
use Rattle.isa.specs.Encoding.{in_range, word_of}
use Rattle.isa.specs.Rvc.{expanded}
use Rattle.isa.specs.Shortening.{shortened}
use Rattle.octets.specs.Bytes.{little_endian}
use Rattle.roundtrip.proofs.Words.{word_lt, decode_encode}
use Rattle.shortest.proofs.Shortest.{shortened-is}
use Rattle.text.specs.Text.{text_of, short_text_of}
use Rattle.assembly.specs.Assembly.{gives, faulty, half_of, code_of, meaning, Assembly, output, fault, before, assembled}
use Rattle.assembly.proofs.Forms.{text_for}
use Rattle.assembly.proofs.Back.{word_back, half_back}
use Rattle.assembly.proofs.Only.{accepted}
use Rattle.assembly.proofs.Refusals.{refused_10, refused_11, refused_12, which}
use Rattle.assembly.proofs.Steps.{nothing, line_then, line-faulty}
use Rattle.assembler.proofs.Lines.{by_lines}
use Rattle.promises_codes.proofs.Readings.{legal-is}
use Rattle.promises_assembly.specs.Assembly.{Smallest, LineGives, word, half, LinesGive, none, line, AtFault, unreadable, wrong_number, no_half, FirstFault, here, later}
use Rattle.isa.specs.declared.Unshortened.TheVariants as U
use Rattle.isa.specs.declared.Unshortened.{Unshortened}
use Rattle.std.specs.Prelude.{Err, Ok, Result}

-- ---- one line

one_smallest : (i : Inst) (j k : ℕ) → Smallest i j → Smallest i k → j ≡ k
one_smallest i j k p q = omega (arith, p.2 k q.0 q.1, q.2 j p.0 p.1)

pub line-meaning : {l bs : List ℕ} → LineGives l bs → (rest : List ℕ) → meaning (l ++ rest) ≡ gives bs rest
line-meaning (word w i h e) rest = ap meaning (append_assoc (text_of i) (10 ∷ []) rest) ∙ word_back w i rest h (legal-is (decoded w) i e)
line-meaning (half h k i l e s) rest =
    let b = half_back h i rest l (legal-is (expanded h) i e) in
    let n : ℕ = b.0 in
    let t : Smallest i n = (b.1.halfword, ap of_decoded b.1.stands_for, λ j u v. b.1.smallest_one j u (legal-is (expanded j) i v)) in
    ap meaning (append_assoc (short_text_of i) (10 ∷ []) rest) ∙ b.2 ∙ ap (λ (n : ℕ). gives (little_endian 2 n) rest) (one_smallest i n k t s)

record Split (text bs rest : List ℕ) : Type 0 where
  front : List ℕ
  gives_so : LineGives front bs
  is : text ≡ front ++ rest

coded : (i : Inst) → in_range i ≡ true → (c : Bool) (bs rest : List ℕ) → code_of c i rest ≡ gives bs rest → LineGives (text_for c i ++ (10 ∷ [])) bs
coded i g false bs rest e =
    let z : little_endian 4 (word_of i) ≡ bs = cc in
    subst (LineGives (text_of i ++ (10 ∷ []))) z (word (word_of i) i (word_lt i) (ap of_decoded (decode_encode i g)))
coded i g true bs rest e = go (shortened i) refl e
  where
    go : (s : Result ℕ Unshortened) → shortened i ≡ s → half_of s rest ≡ gives bs rest → LineGives (short_text_of i ++ (10 ∷ [])) bs
    go (Ok h) q e =
        let z : little_endian 2 h ≡ bs = cc in
        let s = shortened-is i h q in
        let x : expands_to h = ap of_decoded s.stands_for in
        subst (LineGives (short_text_of i ++ (10 ∷ []))) z (half h h i s.halfword x (s.halfword, x, λ k u v. s.smallest_one k u (legal-is (expanded k) i v)))
      where
        expands_to : ℕ → Type 0
        expands_to h = of_decoded (expanded h) ≡ given i
    go (Err U.OutOfRange) q e =
        let z : ◌≡◌ {A = ℕ} 0 1 = cc in
        absurd (omega arith)
    go (Err U.NoShortForm) q e =
        let z : ◌≡◌ {A = ℕ} 0 1 = cc in
        absurd (omega arith)

split : (text bs rest : List ℕ) → meaning text ≡ gives bs rest → Split text bs rest
split text bs rest e =
    let a = accepted text bs rest e in
    record {
      front = text_for a.short a.inst ++ (10 ∷ []);
      gives_so = coded a.inst a.ranged a.short bs rest a.code;
      is = a.is ∙ sym (append_assoc (text_for a.short a.inst) (10 ∷ []) rest);
    }

-- ---- a line at fault

record Fault (text : List ℕ) (n p : ℕ) : Type 0 where
  refusal : Refusal
  number : number_of refusal ≡ n
  is : meaning text ≡ faulty refusal p

fault-is : {text : List ℕ} {n p : ℕ} → AtFault text n p → Fault text n p
fault-is {text} {n} {p} (unreadable h) = record { refusal = R.Unreadable; number = refl; is = (refused_10 text p).1 h }
fault-is {text} {n} {p} (wrong_number h) = record { refusal = R.NumberNotAllowed; number = refl; is = (refused_11 text p).1 h }
fault-is {text} {n} {p} (no_half h) = record { refusal = R.NoShortLine; number = refl; is = (refused_12 text p).1 h }

at-fault : (text : List ℕ) (r : Refusal) (p : ℕ) → meaning text ≡ faulty r p → AtFault text (number_of r) p
at-fault text r p e = go (which text r p e)
  where
    go : (r ≡ R.Unreadable) ⊎ ((r ≡ R.NumberNotAllowed) ⊎ (r ≡ R.NoShortLine)) → AtFault text (number_of r) p
    go (inl q) = rw q (unreadable ((refused_10 text p).0 (rw q at e)))
    go (inr (inl q)) = rw q (wrong_number ((refused_11 text p).0 (rw q at e)))
    go (inr (inr q)) = rw q (no_half ((refused_12 text p).0 (rw q at e)))

-- ---- all lines

pub lines_give : {text out : List ℕ} → LinesGive text out → assembled text ≡ output out
lines_give none = nothing
lines_give (line {l = l} {bs = bs} {text = text} {out = out} g r) = line_then (l ++ text) bs text (line-meaning g text) ∙ ap (before bs) (lines_give r)

pub record Refuses (text : List ℕ) (n k p : ℕ) : Type 0 where
  pub refusal : Refusal
  pub number : number_of refusal ≡ n
  pub is : assembled text ≡ fault refusal k p

pub fault_refuses : {text : List ℕ} {n k p : ℕ} → FirstFault text n k p → Refuses text n k p
fault_refuses (here {text = text} {n = n} {p = p} h f) =
    let a = fault-is f in
    record { refusal = a.refusal; number = a.number; is = line-faulty text a.refusal p h a.is }
fault_refuses (later {l = l} {bs = bs} {text = text} {n = n} {k = k} {p = p} g f) =
    let a = fault_refuses f in
    record { refusal = a.refusal; number = a.number; is = line_then (l ++ text) bs text (line-meaning g text) ∙ ap (before bs) a.is }

abbrev pub Told : List ℕ → Assembly → Type 0
Told text (output out) = LinesGive text out
Told text (fault r k p) = FirstFault text (number_of r) k p

told-after : {l bs : List ℕ} → LineGives l bs → (text : List ℕ) (a : Assembly) → Told text a → Told (l ++ text) (before bs a)
told-after g text (output out) t = line g t
told-after g text (fault r k p) t = later g t

told_line : (text bs rest : List ℕ) (a : Assembly) → meaning text ≡ gives bs rest → Told rest a → Told text (before bs a)
told_line text bs rest a e t =
    let s = split text bs rest e in
    subst (λ (t : List ℕ). Told t (before bs a)) (sym s.is) (told-after s.gives_so rest a t)

-- one of the two it is
pub told : (text : List ℕ) → Told text (assembled text)
told = by_lines Told none (λ text r p h e. here h (at-fault text r p e)) told_line
