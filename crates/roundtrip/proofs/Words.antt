-- Words and instructions, both ways: an instruction in range is what its word means, and a word that means an instruction is the instruction's word.
use mathlib.Core.Path.{◌≡◌, refl, sym, ap, ◌∙◌, subst}
use mathlib.Core.Bool.{Bool, true, false, cond}
use Prim.Native.Nat.{ℕ, ◌^◌, ◌<◌}
use lib.Dec.{T}
use Rattle.word.proofs.Bools.{holds, is_true}
use Rattle.isa.specs.Decoding.{decoded}
use Rattle.isa.specs.Encoding.{in_range, word_of, encoded}
use Rattle.isa.specs.declared.Inst.{Inst}
use Rattle.roundtrip.proofs.Digits.{value, Has, value_lt, value_has, whole}
use Rattle.roundtrip.proofs.Formats.{digits_of, word-is}
use Rattle.roundtrip.proofs.Reading.{reads}
use Rattle.roundtrip.proofs.Meaning.{Good, means}
use Rattle.std.specs.Prelude.{None, Some}

-- ---- the word of an instruction, in range or not

word_has : (i : Inst) → Has (word_of i) (digits_of i)
word_has i = subst (λ (w : ℕ). Has w (digits_of i)) (sym (word-is i).0) (value_has (digits_of i))

-- it has 32 bits
pub word_lt : (i : Inst) → word_of i < 2 ^ 32
word_lt i = rw (word-is i).0 (subst (λ (k : ℕ). value (digits_of i) < 2 ^ k) (word-is i).1 (value_lt (digits_of i)))

-- ---- decoding an instruction's word gives the instruction

pub decode_encode : (i : Inst) → in_range i ≡ true → decoded (word_of i) ≡ Some i
decode_encode i e = reads (word_of i) i (word_lt i) (holds (in_range i) e) (word_has i)

pub decode_encoded : (i : Inst) (w : ℕ) → encoded i ≡ Some w → decoded w ≡ Some i
decode_encoded i w = go (in_range i) refl
  where
    go : (b : Bool) → in_range i ≡ b → cond b (Some (word_of i)) None ≡ Some w → decoded w ≡ Some i
    go true q e =
        let same : word_of i ≡ w = cc in
        ap decoded (sym same) ∙ decode_encode i q
    go false q e = cc

-- ---- encoding what a word means gives the word

good : (w : ℕ) (i : Inst) → decoded w ≡ Some i → T (in_range i) × Has w (digits_of i)
good w i e = subst (Good w) e (means w)

-- what a word means is in range
pub decoded_in_range : (w : ℕ) (i : Inst) → decoded w ≡ Some i → in_range i ≡ true
decoded_in_range w i e = is_true (in_range i) (good w i e).0

pub encode_decode : (w : ℕ) (i : Inst) → w < 2 ^ 32 → decoded w ≡ Some i → encoded i ≡ Some w
encode_decode w i l e =
    let l₃₂ = subst (λ (k : ℕ). w < 2 ^ k) (sym (word-is i).1) l in
    ap (λ (b : Bool). cond b (Some (word_of i)) None) (decoded_in_range w i e) ∙ ap Some ((word-is i).0 ∙ whole w (digits_of i) l₃₂ (good w i e).1)
