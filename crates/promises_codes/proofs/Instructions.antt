-- The promises of the instruction set: the round trips of the words and of the five numbers, the sweep over the halfwords and the chart's rule, in the paper's numbers.
use mathlib.Core.Path.{◌≡◌, refl, sym, ap, subst, ◌∙◌}
use mathlib.Core.Bool.{Bool, true, false, cond, ◌&&◌, and-eq-true_iff}
use mathlib.Core.Logic.{inl, inr}
use Prim.Native.Nat.{ℕ, ◌%◌, ◌<◌}
use native.Mathlib.Omega.{arith}
use borrow.Author.Tests.{lt-ltb, le-ltb, ltb-true, eqb-true, eq-eqb, ne_eqb}
use lib.Dec.{T, eqb, ltb, ltb→lt}
use Rattle.word.proofs.Bools.{and_left, and_right, below}
use Rattle.word.proofs.Rows.{found_passing}
use Rattle.answers.specs.Answer.{given}
use Rattle.isa.specs.declared.Inst.{Inst}
use Rattle.isa.specs.declared.Parts.{Parts}
use Rattle.isa.specs.Operations.{parts_of, same_parts}
use Rattle.isa.specs.Building.{inst_of, built, registers_ok}
use Rattle.isa.specs.Decoding.{decoded, opcodes}
use Rattle.isa.specs.Fields.{opcode}
use Rattle.isa.specs.Encoding.{in_range, word_of, encoded}
use Rattle.isa.specs.Rvc.{expanded}
use Rattle.isa.specs.Shortening.{stands, shortened}
use Rattle.isa.specs.Answers.{of_built, of_decoded, of_encoded, of_shortened}
use Rattle.shortest.specs.Trial.{tried}
use Rattle.shortest.proofs.Shortest.{by_one, expanded_in_range, shortened_one, shortened-is, no_short_form, none-stands}
use Rattle.roundtrip.proofs.Same.{back, parts_same}
use Rattle.roundtrip.proofs.Words as Words
use Rattle.chart.proofs.Legal as Chart
use Rattle.chart.proofs.Count.{filled_57}
use Rattle.promises_codes.specs.Instructions.{builds, decodes, Registers, DecodeRefuses, ExpandRefuses, EncodeRefuses, ShortenRefuses, ShortFormRefuses, BuildRefuses, OtherWidth, DecodeOfEncode, EncodeOfDecode, ExpansionEncodes, ExpandOfShorten, ShortenOfExpand, BuildOfParts, PartsOfBuild, LegalCharted, ChartFilled}
use Rattle.answers.proofs.Order.{apart, same-value}
use Rattle.promises_codes.proofs.Readings.{legal-is, bits_is, out_is, half_is, eight_is, nine_is, seven, eight}
use Rattle.promises_codes.proofs.Halfwords.{exactly_listed}
use Rattle.isa.specs.declared.Unshortened.TheVariants as U
use Rattle.std.specs.Prelude.{Err, None, Ok, Some}

-- ---- round trips of the words, and refusals

pub registers : Registers
registers n =
    elim (below n 32) [
      | inl l ↦ rw (lt-ltb n 32 l) ((λ e. omega arith, λ k. refl), (λ e. absurd (apart e), λ k. absurd (omega arith)))
      | inr l ↦ rw (le-ltb n 32 l) ((λ e. absurd (apart (sym e)), λ k. absurd (omega arith)), (λ e. omega arith, λ k. refl))
    ]

pub decode_of_encode : DecodeOfEncode
decode_of_encode i w e = ap of_decoded (Words.decode_encoded i w (bits_is (encoded i) w e))

pub encode_of_decode : EncodeOfDecode
encode_of_decode w i l e = ap of_encoded (Words.encode_decode w i l (legal-is (decoded w) i e))

pub decode_refuses : DecodeRefuses
decode_refuses w l = (λ e i m. apart (sym (decode_of_encode i w m) ∙ e), λ f. seven (decoded w) (λ i e. f i (encode_of_decode w i l e)))

pub expand_refuses : ExpandRefuses
expand_refuses = exactly_listed

pub encode_refuses : EncodeRefuses
encode_refuses i = (λ e. go (in_range i) (out_is (encoded i) 8 e), λ e. rw e)
  where
    go : (b : Bool) → cond b (Some (word_of i)) None ≡ None → b ≡ false
    go true e = let z : ◌≡◌ {A = ℕ} 0 1 = cc in absurd (omega arith)
    go false e = refl

-- the shortener refuses with 8 first
out_of_range : (a b : Bool) (h : ℕ) → cond a (cond b (Ok h) (Err U.NoShortForm)) (Err U.OutOfRange) ≡ Err U.OutOfRange → a ≡ false
out_of_range true true h e = let z : ◌≡◌ {A = ℕ} 0 1 = cc in absurd (omega arith)
out_of_range true false h e = let z : ◌≡◌ {A = ℕ} 0 1 = cc in absurd (omega arith)
out_of_range false b h e = refl

in_range_lem : (a b : Bool) (h : ℕ) → cond a (cond b (Ok h) (Err U.NoShortForm)) (Err U.OutOfRange) ≡ Err U.NoShortForm → a ≡ true
in_range_lem true b h e = refl
in_range_lem false b h e = let z : ◌≡◌ {A = ℕ} 0 1 = cc in absurd (omega arith)

pub shorten_refuses : ShortenRefuses
shorten_refuses i = (λ e. out_of_range (in_range i) (stands i (tried (parts_of i))) _ (sym (by_one i) ∙ eight_is (shortened i) e), λ e. rw e)

pub short_form_refuses : ShortFormRefuses
short_form_refuses i = (
  λ e. (in_range_lem (in_range i) (stands i (tried (parts_of i))) _ (sym (by_one i) ∙ nine_is (shortened i) e), λ h l m. no_short_form i (nine_is (shortened i) e) h l (legal-is (expanded h) i m)),
  λ p. ap of_shortened (none-stands i p.0 (λ h l m. p.1 h l (ap of_decoded m))),
)

-- every opcode's low two bits are 11, and its low five are not 11111
abbrev long_code : ℕ → Bool
long_code k = eqb (k % 4) 3 && ltb (k % 32) 31

none-long : (w : ℕ) → long_code (opcode w) ≡ false → decoded w ≡ None
unfolding decoded
none-long w e = found_passing (λ m. m ≡ None) None refl (λ k m. long_code k) (opcodes w) (opcode w) (λ m. m) tt (λ m t. absurd (subst T e t))

pub legal-long : (w : ℕ) (i : Inst) → decodes w ≡ given i → (w % 4 ≡ 3) × (w % 32 < 31)
legal-long w i e = go (long_code (opcode w)) refl
  where
    go : (b : Bool) → long_code (opcode w) ≡ b → (w % 4 ≡ 3) × (w % 32 < 31)
    go true t =
        let p = (and-eq-true_iff (eqb (opcode w % 4) 3) (ltb (opcode w % 32) 31)).0 t in
        (omega (arith, eqb-true (opcode w % 4) 3 p.0), omega (arith, ltb-true (opcode w % 32) 31 p.1))
    go false t = absurd (apart (sym e ∙ ap of_decoded (none-long w t)))

not-long : (w : ℕ) → (w % 4 ≡ 3 → ⊥) → decoded w ≡ None
not-long w f = none-long w (rw (ne_eqb (opcode w % 4) 3 (λ z. f (omega arith))))

not_short : (h : ℕ) → h % 4 ≡ 3 → expanded h ≡ None
unfolding expanded
not_short h e = rw e

pub other_width : OtherWidth
other_width = (λ w f. ap of_decoded (not-long w f), λ h e. ap of_decoded (not_short h e))

-- ---- short and long

pub expansion_encodes : ExpansionEncodes
expansion_encodes h i l e = (word_of i, rw (expanded_in_range h i l (legal-is (expanded h) i e)))

pub expand_of_shorten : ExpandOfShorten
expand_of_shorten i h e =
    let s = shortened-is i h (half_is (shortened i) h e) in
    (s.halfword, ap of_decoded s.stands_for, λ k l m. s.smallest_one k l (legal-is (expanded k) i m))

pub shorten_of_expand : ShortenOfExpand
shorten_of_expand h i l e =
    let m = legal-is (expanded h) i e in
    let s = shortened_one i h l m in
    (tried (parts_of i), ap of_shortened s, (shortened-is i (tried (parts_of i)) s).smallest_one h l m)

-- ---- five numbers

itself : (p : Parts) → same_parts p p ≡ true
itself p =
    let eq : (n : ℕ) → eqb n n ≡ true = λ n. eq-eqb n n refl in
    rw (eq p.operation, eq p.rd, eq p.rs1, eq p.rs2, eq p.imm)

pub build_of_parts : BuildOfParts
build_of_parts i r = rw (lt-ltb _ 32 r.0, lt-ltb _ 32 r.1, lt-ltb _ 32 r.2, back i, itself (parts_of i))

-- what is built passed both tests
passed : (p : Parts) (i : Inst) → builds p ≡ given i → T (registers_ok p) × T (same_parts (parts_of (built p)) p) × (built p ≡ i)
passed p i e = go (registers_ok p) (same_parts (parts_of (built p)) p) e
  where
    go : (a b : Bool) → of_built (cond (a && b) (Some (built p)) None) ≡ given i → T a × T b × (built p ≡ i)
    go true true e = (tt, tt, same-value e)
    go true false e = absurd (apart (sym e))
    go false b e = absurd (apart (sym e))

pub parts_of_build : PartsOfBuild
parts_of_build p i e = let t = passed p i e in ap parts_of (sym t.2) ∙ parts_same (parts_of (built p)) p t.1

below_32 : (p : Parts) → T (registers_ok p) → (p.rd < 32) × (p.rs1 < 32) × (p.rs2 < 32)
below_32 p t =
    let u = and_right (ltb p.rd 32) (ltb p.rs1 32 && ltb p.rs2 32) t in (
      ltb→lt p.rd 32 (and_left (ltb p.rd 32) (ltb p.rs1 32 && ltb p.rs2 32) t),
      ltb→lt p.rs1 32 (and_left (ltb p.rs1 32) (ltb p.rs2 32) u),
      ltb→lt p.rs2 32 (and_right (ltb p.rs1 32) (ltb p.rs2 32) u),
    )

pub build_refuses : BuildRefuses
build_refuses p = (
  λ e i r q. apart (sym (build_of_parts i r) ∙ ap builds q ∙ e),
  λ f. eight (inst_of p) (λ i e. let q = parts_of_build p i e in f i (rw q (below_32 p (passed p i e).0)) q),
)

-- ---- the chart

pub legal_charted : LegalCharted
legal_charted w i e z = Chart.legal_charted w i (legal-is (decoded w) i e) z

pub chart_filled : ChartFilled
chart_filled = filled_57
