-- The text of an instruction reads back as the instruction.
use mathlib.Core.Path.{◌≡◌, refl, ap, sym, ◌∙◌}
use mathlib.Core.List.{List, [], ◌∷◌, ◌++◌, append_assoc}
use mathlib.Core.Bool.{Bool, true, false, cond, ◌&&◌, ◌||◌}
use Prim.Native.Nat.{ℕ, suc, ◌+◌, ◌^◌, ◌<◌}
use native.Mathlib.Omega.{arith}
use lib.Dec.{T, eqb, ltb, ltb→lt, lt→ltb, eqb→eq}
use lib.ListN.{length}
use borrow.Author.Tests.{eqb-true}
use Rattle.word.proofs.Bools.{and_left, and_right, and_both, is_true, holds}
use Rattle.isa.specs.declared.Inst.{Inst}
use Rattle.isa.specs.Operations.{parts_of}
use Rattle.isa.specs.Building.{registers_ok}
use Rattle.isa.specs.Decoding.{decoded}
use Rattle.isa.specs.Encoding.{in_range, word_of}
use Rattle.isa.specs.Rvc.{expanded}
use Rattle.octets.specs.Bytes.{little_endian}
use Rattle.roundtrip.proofs.Same.{back}
use Rattle.roundtrip.proofs.Words.{encode_decode, decoded_in_range}
use Rattle.shortest.specs.Trial.{tried}
use Rattle.shortest.proofs.Shortest.{Shortest, expanded_in_range, shortened_one, shortened-is}
use Rattle.text.specs.Text.{text_of, short_text_of}
use Rattle.assembly.specs.Lines.{Piece, byte, field, shape, is_number, Word, word, Spelled, end, same, number}
use Rattle.assembly.specs.Scanner.{reads, line_at}
use Rattle.assembly.specs.Numbers.{value_of, plain, fits, holds_imm, allowed, Checked, right, checked, after, value}
use Rattle.assembly.specs.Assembly.{instruction, gives, half_of, code_of, unless_wrong, meaning_of, meaning}
use Rattle.assembly.proofs.Numerals.{shown, Back, shown_back}
use Rattle.assembly.proofs.Places.{line_reads}
use Rattle.assembly.proofs.Forms.{still, still_is, range_is, wide, env, rendered, text_for, text_rendered, has, all_absent, operation_lt}
use Rattle.isa.specs.declared.Unshortened.{Unshortened}
use Rattle.std.specs.Prelude.{None, Result, Some}

-- ---- the numbers of a rendered shape

abbrev words_of : List Piece → ℕ → (ℕ → ℕ) → List Word
words_of [] n e = []
words_of (byte b ∷ s) n e = words_of s (suc n) e
words_of (field f ∷ s) n e = word f n (shown f (e f)) ∷ words_of s (n + length (shown f (e f))) e

spelled : (s : List Piece) (n : ℕ) (e : ℕ → ℕ) → ((f : ℕ) → T (is_number f (shown f (e f)))) → Spelled s n (words_of s n e) (rendered s e)
spelled [] n e h = end
spelled (byte b ∷ s) n e h = same (spelled s (suc n) e h)
spelled (field f ∷ s) n e h = number (shown f (e f)) (h f) (spelled s (n + length (shown f (e f))) e h)

value-words : (f v : ℕ) (s : List Piece) (n : ℕ) (e : ℕ → ℕ) → ((g : ℕ) → value_of g (shown g (e g)) ≡ e g) → after f v (words_of s n e) ≡ cond (has f s) (e f) v
unfolding after
value-words f v [] n e h = refl
value-words f v (byte b ∷ s) n e h = value-words f v s (suc n) e h
value-words f v (field g ∷ s) n e h = go (λ v. value-words f v s (n + length (shown g (e g))) e h) (eqb f g) refl
  where
    ws : List Word
    ws = words_of s (n + length (shown g (e g))) e

    twice : (t : Bool) (a : ℕ) → cond t a a ≡ a
    twice true a = refl
    twice false a = refl

    go : ((v : ℕ) → after f v ws ≡ cond (has f s) (e f) v) → (t : Bool) → eqb f g ≡ t → after f (cond t (value_of g (shown g (e g))) v) ws ≡ cond (cond t true (has f s)) (e f) v
    go ih true q =
        let z : value_of g (shown g (e g)) ≡ e f = h g ∙ ap e (sym (eqb-true f g q)) in
        ap (λ (v : ℕ). after f v ws) z ∙ ih (e f) ∙ twice (has f s) (e f)
    go ih false q = ih v

checked-words : (k : ℕ) (s : List Piece) (n : ℕ) (e : ℕ → ℕ) → ((g n : ℕ) → T (allowed k (word g n (shown g (e g))))) → checked k (words_of s n e) ≡ right
unfolding checked
checked-words k [] n e h = refl
checked-words k (byte b ∷ s) n e h = checked-words k s (suc n) e h
checked-words k (field g ∷ s) n e h = rw (is_true (allowed k (word g n (shown g (e g)))) (h g n)) (checked-words k s (n + length (shown g (e g))) e h)

-- ---- the numbers of an instruction in range

module _ (i : Inst) (h : T (in_range i)) where
  registers : T (registers_ok (parts_of i))
  registers = ((range_is i).0 h).0

  stilled : T (in_range (still i))
  stilled = ((range_is i).0 h).1

  small : (g : ℕ) → eqb g 4 ≡ false → env (parts_of i) g < 32
  small g q = go (eqb g 1) (eqb g 2) (eqb g 3) (eqb g 4) q
    where
      a : T (ltb (parts_of i).rd 32)
      a = and_left (ltb (parts_of i).rd 32) _ registers

      b : T (ltb (parts_of i).rs1 32 && ltb (parts_of i).rs2 32)
      b = and_right (ltb (parts_of i).rd 32) _ registers

      go : (t₁ t₂ t₃ t₄ : Bool) → t₄ ≡ false → cond t₁ (parts_of i).rd (cond t₂ (parts_of i).rs1 (cond t₃ (parts_of i).rs2 (cond t₄ (parts_of i).imm 0))) < 32
      go true t₂ t₃ t₄ q = ltb→lt (parts_of i).rd 32 a
      go false true t₃ t₄ q = ltb→lt (parts_of i).rs1 32 (and_left (ltb (parts_of i).rs1 32) _ b)
      go false false true t₄ q = ltb→lt (parts_of i).rs2 32 (and_right (ltb (parts_of i).rs1 32) _ b)
      go false false false t₄ q = rw q (omega arith)

  backs : (g : ℕ) → Back g (shown g (env (parts_of i) g)) (env (parts_of i) g)
  backs g =
      shown_back g (env (parts_of i) g) (λ q. rw (eqb-true g 4 q) (wide i stilled))
      (λ q. omega (arith, small g q))

  allows : (g n : ℕ) → T (allowed (parts_of i).operation (word g n (shown g (env (parts_of i) g))))
  allows g n =
      let b = backs g in
      and_both (plain g (shown g (env (parts_of i) g))) _ b.tidy
      (and_both (fits g (shown g (env (parts_of i) g))) _ b.fit (rw b.value (go (eqb g 4) refl)))
    where
      go : (t : Bool) → eqb g 4 ≡ t → T (cond t (holds_imm (parts_of i).operation (env (parts_of i) g)) (ltb (env (parts_of i) g) 32))
      go true q = rw (eqb-true g 4 q, still_is i) stilled
      go false q = lt→ltb (env (parts_of i) g) 32 (small g q)

  module _ (c : Bool) where
    words : List Word
    words = words_of (shape c (parts_of i).operation) 0 (env (parts_of i))

    field_is : (f : ℕ) → T (has f (shape c (parts_of i).operation) || eqb (env (parts_of i) f) 0) → value f words ≡ env (parts_of i) f
    unfolding words
    field_is f t = value-words f 0 (shape c (parts_of i).operation) 0 (env (parts_of i)) (λ g. (backs g).value) ∙ go (has f (shape c (parts_of i).operation)) t
      where
        go : (b : Bool) → T (b || eqb (env (parts_of i) f) 0) → cond b (env (parts_of i) f) 0 ≡ env (parts_of i) f
        go true t = refl
        go false t = sym (eqb→eq (env (parts_of i) f) 0 t)

    instruction-is : instruction (parts_of i).operation words ≡ i
    unfolding instruction
    instruction-is =
        let s = shape c (parts_of i).operation in
        let t = all_absent c i in
        let t₂ = and_right (has 1 s || eqb (parts_of i).rd 0) _ t in
        let t₃ = and_right (has 2 s || eqb (parts_of i).rs1 0) _ t₂ in
        rw (
          field_is 1 (and_left (has 1 s || eqb (parts_of i).rd 0) _ t),
          field_is 2 (and_left (has 2 s || eqb (parts_of i).rs1 0) _ t₂),
          field_is 3 (and_left (has 3 s || eqb (parts_of i).rs2 0) _ t₃),
          field_is 4 (and_right (has 3 s || eqb (parts_of i).rs2 0) _ t₃),
        )
        (back i)

    line-is : (t : List ℕ) → line_at (text_for c i ++ (10 ∷ t)) ≡ reads c (parts_of i).operation words t
    unfolding words
    line-is t =
        let s = shape c (parts_of i).operation in
        ap line_at (sym (append_assoc (text_for c i) (10 ∷ []) t) ∙ ap (λ (l : List ℕ). l ++ t) (sym (text_rendered c i stilled)))
        ∙ line_reads c (parts_of i).operation (operation_lt i) (spelled s 0 (env (parts_of i)) (λ g. (backs g).number)) t

    -- the text of i, with c: or without, gives the code of i
    pub meaning-is : (t : List ℕ) → meaning (text_for c i ++ (10 ∷ t)) ≡ code_of c i t
    unfolding words
    meaning-is t =
        ap meaning_of (line-is t)
        ∙ ap (λ (r : Checked). unless_wrong r (code_of c (instruction (parts_of i).operation words) t))
        (checked-words (parts_of i).operation (shape c (parts_of i).operation) 0 (env (parts_of i)) allows)
        ∙ ap (λ (j : Inst). code_of c j t) instruction-is

-- THE WORD OF A LEGAL INSTRUCTION, listed and read back, gives its own bits
pub word_back : (w : ℕ) (i : Inst) (t : List ℕ) → w < 2 ^ 32 → decoded w ≡ Some i → meaning (text_of i ++ (10 ∷ t)) ≡ gives (little_endian 4 w) t
word_back w i t l e =
    let r : in_range i ≡ true = decoded_in_range w i e in
    let b : Some (word_of i) ≡ Some w = sym (ap (λ (b : Bool). cond b (Some (word_of i)) None) r) ∙ encode_decode w i l e in
    let q : word_of i ≡ w = cc in
    meaning-is i (holds _ r) false t ∙ ap (λ (w : ℕ). gives (little_endian 4 w) t) q

-- THE TEXT OF A LEGAL HALFWORD gives the smallest halfword with the same expansion
pub half_back : (h : ℕ) (i : Inst) (t : List ℕ) → h < 2 ^ 16 → expanded h ≡ Some i
    → (k : ℕ) × Shortest i k × (meaning (short_text_of i ++ (10 ∷ t)) ≡ gives (little_endian 2 k) t)
half_back h i t l e =
    let k : ℕ = tried (parts_of i) in
    let q = shortened_one i h l e in
    (k, shortened-is i k q, meaning-is i (holds _ (expanded_in_range h i l e)) true t ∙ ap (λ (s : Result ℕ Unshortened). half_of s t) q)
