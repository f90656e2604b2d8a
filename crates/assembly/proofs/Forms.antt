-- Instructions and shapes: an instruction's text is its operation's shape with its numbers, its range is that of its registers and of its immediate, and it has the fields that its shape has.
use mathlib.Core.Path.{◌≡◌, refl, ap, sym, ◌∙◌}
use mathlib.Core.List.{List, [], ◌∷◌, ◌++◌, append_assoc}
use mathlib.Core.Logic.{◌↔◌}
use mathlib.Core.Bool.{Bool, true, false, cond, ◌&&◌, ◌||◌, not}
use Prim.Native.Nat.{ℕ, ◌-◌, ◌^◌, ◌<◌}
use native.Mathlib.Omega.{arith}
use lib.Dec.{T, eqb, leb, ltb, ltb→lt, leb→le, eqb→eq}
use Rattle.word.specs.Tables.{find}
use Rattle.word.proofs.Bools.{and_left, and_right, and_both, is_true, holds}
use Rattle.word.proofs.Signs.{signed_lt}
use borrow.Author.Tests.{lt-ltb}
use Rattle.word.proofs.Rows.{Each, ◌and◌}
use Rattle.word.proofs.Sweep.{at as swept}
use Rattle.ascii.specs.Ascii.{bytes}
use Rattle.ascii.specs.Numbers.{decimal, decimal_by, signed_decimal}
use Rattle.ascii.proofs.Numbers.{signed-plain}
use Rattle.isa.specs.declared.Inst.{Inst}
use Rattle.isa.specs.declared.Inst.TheVariants.{Lui, Auipc, Jal, Jalr, Branch, Load, Store, Imm, Shift, Arith, Fence, Ecall, Ebreak, MulDiv}
use Rattle.isa.specs.declared.Parts.{Parts}
use Rattle.isa.specs.Registers.{reg, x0}
use Rattle.isa.specs.Operations.{parts, parts_of, same_parts}
use Rattle.isa.specs.Building.{operations, built, registers_ok}
use Rattle.isa.specs.Encoding.{in_range, reg_ok, signed_ok, even_ok}
use Rattle.roundtrip.proofs.Same.{back, same, each}
use Rattle.text.specs.Names.{names, name_at}
use Rattle.text.specs.Text.{operands_of, text_of, short_text_of}
use Rattle.text.specs.Samples.{sample}
use Rattle.assembly.specs.Lines.{Piece, byte, field, pieces, shape}
use Rattle.assembly.specs.Numbers.{holds_imm}
use Rattle.assembly.proofs.Numerals.{shown}

-- ---- the range: that of the registers, and that of the immediate

unfoldable pub still : Inst → Inst
still (Lui rd v) = Lui x0 v
still (Auipc rd v) = Auipc x0 v
still (Jal rd v) = Jal x0 v
still (Jalr rd rs1 v) = Jalr x0 x0 v
still (Branch o rs1 rs2 v) = Branch o x0 x0 v
still (Load o rd rs1 v) = Load o x0 x0 v
still (Store o rs1 rs2 v) = Store o x0 x0 v
still (Imm o rd rs1 v) = Imm o x0 x0 v
still (Shift o rd rs1 v) = Shift o x0 x0 v
still (Arith o rd rs1 rs2) = Arith o x0 x0 x0
still (Fence rd rs1 v) = Fence x0 x0 v
still Ecall = Ecall
still Ebreak = Ebreak
still (MulDiv o rd rs1 rs2) = MulDiv o x0 x0 x0

still_parts : (i : Inst) → parts (parts_of i).operation 0 0 0 (parts_of i).imm ≡ parts_of (still i)
unfolding still
still_parts (Lui rd v) = refl
still_parts (Auipc rd v) = refl
still_parts (Jal rd v) = refl
still_parts (Jalr rd rs1 v) = refl
still_parts (Branch o rs1 rs2 v) = refl
still_parts (Load o rd rs1 v) = refl
still_parts (Store o rs1 rs2 v) = refl
still_parts (Imm o rd rs1 v) = refl
still_parts (Shift o rd rs1 v) = refl
still_parts (Arith o rd rs1 rs2) = refl
still_parts (Fence rd rs1 v) = refl
still_parts Ecall = refl
still_parts Ebreak = refl
still_parts (MulDiv o rd rs1 rs2) = refl

pub still_is : (i : Inst) → built (parts (parts_of i).operation 0 0 0 (parts_of i).imm) ≡ still i
still_is i = ap built (still_parts i) ∙ back (still i)

-- rd; rd and rs1; rs1 and rs2
rd_ok : (a c : Bool) → T (a && c) ↔ (T (a && (true && true)) × T c)
rd_ok true c = (λ h. (tt, h), λ h. h.1)
rd_ok false c = (λ h. absurd h, λ h. absurd h.0)

rd_rs1_ok : (a b c : Bool) → T (a && (b && c)) ↔ (T (a && (b && true)) × T c)
rd_rs1_ok true true c = (λ h. (tt, h), λ h. h.1)
rd_rs1_ok true false c = (λ h. absurd h, λ h. absurd h.0)
rd_rs1_ok false b c = (λ h. absurd h, λ h. absurd h.0)

rs_ok : (a b c : Bool) → T (a && (b && c)) ↔ (T (a && b) × T c)
rs_ok true b c = (λ h. (and_left b c h, and_right b c h), λ h. and_both b c h.0 h.1)
rs_ok false b c = (λ h. absurd h, λ h. absurd h.0)

pub range_is : (i : Inst) → T (in_range i) ↔ (T (registers_ok (parts_of i)) × T (in_range (still i)))
unfolding in_range still
range_is (Lui rd v) = rd_ok (reg_ok rd) (ltb v (2 ^ 20))
range_is (Auipc rd v) = rd_ok (reg_ok rd) (ltb v (2 ^ 20))
range_is (Jal rd v) = rd_ok (reg_ok rd) (signed_ok 21 v && even_ok v)
range_is (Jalr rd rs1 v) = rd_rs1_ok (reg_ok rd) (reg_ok rs1) (signed_ok 12 v)
range_is (Branch o rs1 rs2 v) = rs_ok (reg_ok rs1) (reg_ok rs2) (signed_ok 13 v && even_ok v)
range_is (Load o rd rs1 v) = rd_rs1_ok (reg_ok rd) (reg_ok rs1) (signed_ok 12 v)
range_is (Store o rs1 rs2 v) = rs_ok (reg_ok rs1) (reg_ok rs2) (signed_ok 12 v)
range_is (Imm o rd rs1 v) = rd_rs1_ok (reg_ok rd) (reg_ok rs1) (signed_ok 12 v)
range_is (Shift o rd rs1 v) = rd_rs1_ok (reg_ok rd) (reg_ok rs1) (ltb v 32)
range_is (Arith o rd rs1 rs2) = (λ h. (h, tt), λ h. h.0)
range_is (Fence rd rs1 v) = rd_rs1_ok (reg_ok rd) (reg_ok rs1) (ltb v (2 ^ 12))
range_is Ecall = (λ h. (tt, tt), λ h. tt)
range_is Ebreak = (λ h. (tt, tt), λ h. tt)
range_is (MulDiv o rd rs1 rs2) = (λ h. (h, tt), λ h. h.0)

-- an immediate has 32 bits
imm_lt : (k v : ℕ) → T (leb 1 k) → T (leb k 32) → T (signed_ok k v) → v < 2 ^ 32
imm_lt k v p q t = signed_lt k v (leb→le 1 k p) (leb→le k 32 q) (is_true _ t)

field_lt : (n v : ℕ) → T (leb n (2 ^ 31)) → T (ltb v n) → v < 2 ^ 31
field_lt n v p t = omega (arith, leb→le n (2 ^ 31) p, ltb→lt v n t)

pub wide : (i : Inst) → T (in_range (still i)) → (parts_of i).imm < 2 ^ 32
unfolding in_range still
wide (Lui rd v) h = omega (arith, field_lt (2 ^ 20) v tt h)
wide (Auipc rd v) h = omega (arith, field_lt (2 ^ 20) v tt h)
wide (Jal rd v) h = imm_lt 21 v tt tt (and_left (signed_ok 21 v) _ h)
wide (Jalr rd rs1 v) h = imm_lt 12 v tt tt h
wide (Branch o rs1 rs2 v) h = imm_lt 13 v tt tt (and_left (signed_ok 13 v) _ h)
wide (Load o rd rs1 v) h = imm_lt 12 v tt tt h
wide (Store o rs1 rs2 v) h = imm_lt 12 v tt tt h
wide (Imm o rd rs1 v) h = imm_lt 12 v tt tt h
wide (Shift o rd rs1 v) h = omega (arith, field_lt 32 v tt h)
wide (Arith o rd rs1 rs2) h = omega arith
wide (Fence rd rs1 v) h = omega (arith, field_lt (2 ^ 12) v tt h)
wide Ecall h = omega arith
wide Ebreak h = omega arith
wide (MulDiv o rd rs1 rs2) h = omega arith

-- ---- the text: the shape with the numbers

-- the number of a field
abbrev pub env : Parts → ℕ → ℕ
env p f = cond (eqb f 1) p.rd (cond (eqb f 2) p.rs1 (cond (eqb f 3) p.rs2 (cond (eqb f 4) p.imm 0)))

abbrev pub rendered : List Piece → (ℕ → ℕ) → List ℕ
rendered [] e = []
rendered (byte b ∷ s) e = b ∷ rendered s e
rendered (field f ∷ s) e = shown f (e f) ++ rendered s e

sampled : Inst → Inst
sampled (Lui rd v) = Lui (reg 1) 4
sampled (Auipc rd v) = Auipc (reg 1) 4
sampled (Jal rd v) = Jal (reg 1) 4
sampled (Jalr rd rs1 v) = Jalr (reg 1) (reg 2) 4
sampled (Branch o rs1 rs2 v) = Branch o (reg 2) (reg 3) 4
sampled (Load o rd rs1 v) = Load o (reg 1) (reg 2) 4
sampled (Store o rs1 rs2 v) = Store o (reg 2) (reg 3) 4
sampled (Imm o rd rs1 v) = Imm o (reg 1) (reg 2) 4
sampled (Shift o rd rs1 v) = Shift o (reg 1) (reg 2) 4
sampled (Arith o rd rs1 rs2) = Arith o (reg 1) (reg 2) (reg 3)
sampled (Fence rd rs1 v) = Fence (reg 1) (reg 2) 4
sampled Ecall = Ecall
sampled Ebreak = Ebreak
sampled (MulDiv o rd rs1 rs2) = MulDiv o (reg 1) (reg 2) (reg 3)

sample-is : (i : Inst) → sample (parts_of i).operation ≡ sampled i
unfolding built sampled
sample-is i = same _ _ (each (λ i. same_parts (parts_of (sample (parts_of i).operation)) (parts_of (sampled i))) (λ d s t v. tt) i)

-- no field in a name
abbrev name_like : List ℕ → Bool
name_like [] = true
name_like (b ∷ l) = not (leb 49 b && leb b 52) && name_like l

after_name : (n l : List ℕ) (e : ℕ → ℕ) → T (name_like n) → rendered (pieces (n ++ l)) e ≡ n ++ rendered (pieces l) e
after_name [] l e h = refl
after_name (b ∷ n) l e h = go (leb 49 b && leb b 52) h (after_name n l e)
  where
    go : (t : Bool) → T (not t && name_like n) → (T (name_like n) → rendered (pieces (n ++ l)) e ≡ n ++ rendered (pieces l) e)
        → rendered (cond t (field (b - 48)) (byte b) ∷ pieces (n ++ l)) e ≡ b ∷ (n ++ rendered (pieces l) e)
    go true h ih = absurd h
    go false h ih = ap (λ (l : List ℕ). b ∷ l) (ih h)

name_like_lem : (i : Inst) → T (name_like (name_at (parts_of i).operation))
unfolding names name_at
name_like_lem i = each (λ i. name_like (name_at (parts_of i).operation)) (λ d s t v. tt) i

-- the operands of a sample
operand_text : Inst → List ℕ
operand_text (Lui rd v) = bytes " x1,4"
operand_text (Auipc rd v) = bytes " x1,4"
operand_text (Jal rd v) = bytes " x1,4"
operand_text (Jalr rd rs1 v) = bytes " x1,4(x2)"
operand_text (Branch o rs1 rs2 v) = bytes " x2,x3,4"
operand_text (Load o rd rs1 v) = bytes " x1,4(x2)"
operand_text (Store o rs1 rs2 v) = bytes " x3,4(x2)"
operand_text (Imm o rd rs1 v) = bytes " x1,x2,4"
operand_text (Shift o rd rs1 v) = bytes " x1,x2,4"
operand_text (Arith o rd rs1 rs2) = bytes " x1,x2,x3"
operand_text (Fence rd rs1 v) = bytes " x1,x2,4"
operand_text Ecall = []
operand_text Ebreak = []
operand_text (MulDiv o rd rs1 rs2) = bytes " x1,x2,x3"

sample-text : (i : Inst) → text_of (sampled i) ≡ name_at (parts_of i).operation ++ operand_text i
unfolding sampled operand_text text_of operands_of decimal decimal_by signed_decimal
sample-text (Lui rd v) = refl
sample-text (Auipc rd v) = refl
sample-text (Jal rd v) = refl
sample-text (Jalr rd rs1 v) = refl
sample-text (Branch o rs1 rs2 v) = refl
sample-text (Load o rd rs1 v) = refl
sample-text (Store o rs1 rs2 v) = refl
sample-text (Imm o rd rs1 v) = refl
sample-text (Shift o rd rs1 v) = refl
sample-text (Arith o rd rs1 rs2) = refl
sample-text (Fence rd rs1 v) = refl
sample-text Ecall = refl
sample-text Ebreak = refl
sample-text (MulDiv o rd rs1 rs2) = refl

regroup : (a b c d e : List ℕ) → a ++ b ++ (c ++ d) ++ e ≡ a ++ (b ++ (c ++ (d ++ e)))
regroup a b c d e = simp append_assoc

address_cut : (a b c : List ℕ)
    → 32 ∷ 120 ∷ (a ++ (44 ∷ (b ++ (40 ∷ 120 ∷ (c ++ (41 ∷ 10 ∷ []))))))
    ≡ (32 ∷ 120 ∷ a) ++ (44 ∷ b) ++ ((40 ∷ 120 ∷ c) ++ (41 ∷ [])) ++ (10 ∷ [])
address_cut a b c = sym (regroup (32 ∷ 120 ∷ a) (44 ∷ b) (40 ∷ 120 ∷ c) (41 ∷ []) (10 ∷ []))

operands_rendered : (i : Inst) → T (in_range (still i)) → rendered (pieces (operand_text i)) (env (parts_of i)) ≡ operands_of i ++ (10 ∷ [])
unfolding operand_text operands_of in_range still
operands_rendered (Lui rd v) h = rw (signed-plain v (field_lt (2 ^ 20) v tt h)) (simp append_assoc)
operands_rendered (Auipc rd v) h = rw (signed-plain v (field_lt (2 ^ 20) v tt h)) (simp append_assoc)
operands_rendered (Jal rd v) h = simp append_assoc
operands_rendered (Jalr rd rs1 v) h = address_cut (decimal rd.number) (signed_decimal v) (decimal rs1.number)
operands_rendered (Branch o rs1 rs2 v) h = simp append_assoc
operands_rendered (Load o rd rs1 v) h = address_cut (decimal rd.number) (signed_decimal v) (decimal rs1.number)
operands_rendered (Store o rs1 rs2 v) h = address_cut (decimal rs2.number) (signed_decimal v) (decimal rs1.number)
operands_rendered (Imm o rd rs1 v) h = simp append_assoc
operands_rendered (Shift o rd rs1 v) h = rw (signed-plain v (field_lt 32 v tt h)) (simp append_assoc)
operands_rendered (Arith o rd rs1 rs2) h = simp append_assoc
operands_rendered (Fence rd rs1 v) h = rw (signed-plain v (field_lt (2 ^ 12) v tt h)) (simp append_assoc)
operands_rendered Ecall h = refl
operands_rendered Ebreak h = refl
operands_rendered (MulDiv o rd rs1 rs2) h = simp append_assoc

abbrev pub text_for : Bool → Inst → List ℕ
text_for short i = cond short (short_text_of i) (text_of i)

long_rendered : (i : Inst) → T (in_range (still i)) → rendered (pieces (text_of (sample (parts_of i).operation))) (env (parts_of i)) ≡ text_of i ++ (10 ∷ [])
unfolding text_of
long_rendered i h =
    rw (sample-is i) (ap (λ (l : List ℕ). rendered (pieces l) (env (parts_of i))) (sample-text i)
    ∙ after_name (name_at (parts_of i).operation) (operand_text i) (env (parts_of i)) (name_like_lem i)
    ∙ ap (λ (l : List ℕ). name_at (parts_of i).operation ++ l) (operands_rendered i h)
    ∙ sym (append_assoc (name_at (parts_of i).operation) (operands_of i) (10 ∷ [])))

pub text_rendered : (c : Bool) (i : Inst) → T (in_range (still i)) → rendered (shape c (parts_of i).operation) (env (parts_of i)) ≡ text_for c i ++ (10 ∷ [])
unfolding shape short_text_of
text_rendered true i h = ap (λ (l : List ℕ). 99 ∷ 58 ∷ l) (long_rendered i h)
text_rendered false i h = long_rendered i h

-- ---- the fields: an instruction has those of its shape

abbrev pub has : ℕ → List Piece → Bool
has f [] = false
has f (byte b ∷ s) = has f s
has f (field g ∷ s) = cond (eqb f g) true (has f s)

-- a field that the shape has not is 0
abbrev absent : List Piece → Parts → Bool
absent s p = (has 1 s || eqb p.rd 0) && ((has 2 s || eqb p.rs1 0) && ((has 3 s || eqb p.rs2 0) && (has 4 s || eqb p.imm 0)))

pub all_absent : (c : Bool) (i : Inst) → T (absent (shape c (parts_of i).operation) (parts_of i))
unfolding decimal decimal_by signed_decimal names name_at operands_of text_of short_text_of built shape
all_absent true i = each (λ i. absent (shape true (parts_of i).operation) (parts_of i)) (λ d s t v. tt) i
all_absent false i = each (λ i. absent (shape false (parts_of i).operation) (parts_of i)) (λ d s t v. tt) i

-- the numbers of the fields that a shape has
abbrev pub masked : Bool → ℕ → ℕ → ℕ → ℕ → ℕ → Parts
masked c k d s t v = parts k (cond (has 1 (shape c k)) d 0) (cond (has 2 (shape c k)) s 0) (cond (has 3 (shape c k)) t 0) (cond (has 4 (shape c k)) v 0)

-- what is found, where there is a row
found_row : {A B : Type 0} (P : B → Type 0) (d : B) (t : List (ℕ × A)) (k : ℕ) (f : A → B) → T (find false t k (λ a. true)) → Each P t k f → P (find d t k f)
found_row P d [] k f h e = absurd h
found_row P d (r ∷ t) k f h e = go (λ h. found_row P d t k f h e.1) (eqb k r.0) refl h
  where
    go : (T (find false t k (λ a. true)) → P (find d t k f)) → (b : Bool) → eqb k r.0 ≡ b → T (cond b true (find false t k (λ a. true))) → P (cond b (f r.1) (find d t k f))
    go ih true q h = e.0 (eqb→eq k r.0 (holds _ q))
    go ih false q h = ih h

-- .. for each of the 48
rowed : (d s t v k : ℕ) → k < 48 → T (find false (operations d s t v) k (λ i. true))
rowed d s t v k h = rw (lt-ltb k 48 h) at (swept (λ k. cond (ltb k 48) (find false (operations d s t v) k (λ i. true)) true) 6 0 tt k (omega arith) (omega arith))

kept_long : (k d s t v : ℕ) → k < 48 → parts_of (built (parts k d s t v)) ≡ masked false k d s t v
unfolding built decimal decimal_by signed_decimal names name_at operands_of text_of short_text_of shape
kept_long k d s t v h = found_row (λ i. parts_of i ≡ masked false k d s t v) Ecall (operations d s t v) k (λ i. i) (rowed d s t v k h)
    ((λ e. rw e)
    and (λ e. rw e)
    and (λ e. rw e)
    and (λ e. rw e)
    and (λ e. rw e)
    and (λ e. rw e)
    and (λ e. rw e)
    and (λ e. rw e)
    and (λ e. rw e)
    and (λ e. rw e)
    and (λ e. rw e)
    and (λ e. rw e)
    and (λ e. rw e)
    and (λ e. rw e)
    and (λ e. rw e)
    and (λ e. rw e)
    and (λ e. rw e)
    and (λ e. rw e)
    and (λ e. rw e)
    and (λ e. rw e)
    and (λ e. rw e)
    and (λ e. rw e)
    and (λ e. rw e)
    and (λ e. rw e)
    and (λ e. rw e)
    and (λ e. rw e)
    and (λ e. rw e)
    and (λ e. rw e)
    and (λ e. rw e)
    and (λ e. rw e)
    and (λ e. rw e)
    and (λ e. rw e)
    and (λ e. rw e)
    and (λ e. rw e)
    and (λ e. rw e)
    and (λ e. rw e)
    and (λ e. rw e)
    and (λ e. rw e)
    and (λ e. rw e)
    and (λ e. rw e)
    and (λ e. rw e)
    and (λ e. rw e)
    and (λ e. rw e)
    and (λ e. rw e)
    and (λ e. rw e)
    and (λ e. rw e)
    and (λ e. rw e)
    and (λ e. rw e)
    and tt)

pub kept : (c : Bool) (k d s t v : ℕ) → k < 48 → parts_of (built (parts k d s t v)) ≡ masked c k d s t v
unfolding shape short_text_of
kept true k d s t v h = kept_long k d s t v h
kept false k d s t v h = kept_long k d s t v h

-- an operation is known by a number below 48
pub operation_lt : (i : Inst) → (parts_of i).operation < 48
operation_lt i = ltb→lt _ _ (each (λ i. ltb (parts_of i).operation 48) (λ d s t v. tt) i)

-- a shape has a field once, and none but 1 to 4
abbrev pub once : List Piece → Bool
once [] = true
once (byte b ∷ s) = once s
once (field f ∷ s) = (leb 1 f && leb f 4) && (not (has f s) && once s)

pub all_once : (c : Bool) (i : Inst) → T (once (shape c (parts_of i).operation))
unfolding decimal decimal_by signed_decimal names name_at operands_of text_of short_text_of built shape
all_once true i = each (λ i. once (shape true (parts_of i).operation)) (λ d s t v. tt) i
all_once false i = each (λ i. once (shape false (parts_of i).operation)) (λ d s t v. tt) i

-- where it has no immediate, 0 is one that the operation can hold
pub no_imm : (c : Bool) (i : Inst) → T (has 4 (shape c (parts_of i).operation) || holds_imm (parts_of i).operation 0)
unfolding decimal decimal_by signed_decimal names name_at operands_of text_of short_text_of built shape in_range
no_imm true i = each (λ i. has 4 (shape true (parts_of i).operation) || holds_imm (parts_of i).operation 0) (λ d s t v. tt) i
no_imm false i = each (λ i. has 4 (shape false (parts_of i).operation) || holds_imm (parts_of i).operation 0) (λ d s t v. tt) i
