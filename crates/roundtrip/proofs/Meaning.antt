-- What a word means is in range, and the word has its digits: said of each row of the tables, so of what is found there.
use mathlib.Core.Path.{◌≡◌, sym, ◌∙◌, subst}
use mathlib.Core.Bool.{Bool, ◌&&◌}
use mathlib.Core.List.{List, [], ◌∷◌}
use Prim.Native.Nat.{ℕ, ◌/◌, ◌%◌, ◌^◌}
use lib.Dec.{T, eqb, ltb, eqb→eq}
use Rattle.word.specs.Bits.{bits}
use Rattle.word.specs.Tables.{find}
use Rattle.word.proofs.Bools.{and_left, and_right, and_both}
use Rattle.word.proofs.Rows.{◌and◌, found, passes, found_passing}
use Rattle.isa.specs.Registers.{reg}
use Rattle.isa.specs.Fields.{opcode, rd, funct3, rs1, rs2, shamt, funct7, funct12, imm_i, imm_s, imm_b, field_u, imm_j}
use Rattle.isa.specs.Decoding.{decoded, opcodes, branches, loads, stores, lefts, rights, immediates, ariths, others, mul_divs, registers, systems, decode_jalr, decode_branch, decode_load, decode_store, decode_shift, decode_immediate, decode_arith, decode_mul_div, decode_register, decode_fence, decode_system}
use Rattle.isa.specs.Encoding.{in_range, reg_ok, signed_ok, even_ok, cond_code, load_code, store_code, imm_code, shift_code, shift_code7, arith_code, arith_code7, mul_div_code}
use Rattle.isa.specs.declared.Inst.TheVariants.{Jalr, Branch, Load, Store, Imm, Shift, Arith, Fence, MulDiv}
use Rattle.isa.specs.declared.ImmOp.{ImmOp}
use Rattle.isa.specs.declared.ImmOp.TheVariants.{Addi, Slti, Sltiu, Xori, Ori, Andi}
use Rattle.isa.specs.declared.ShiftOp.{ShiftOp}
use Rattle.isa.specs.declared.ArithOp.{ArithOp}
use Rattle.roundtrip.proofs.Digits.{value, Has, value_has}
use Rattle.roundtrip.proofs.Operands.{kept, again, field_ok, imm_has, imm_ok, even_ok_lem}
use Rattle.roundtrip.proofs.Formats.{format_r, format_i, format_s, format_b, format_u, format_j, digits_i, digits_s, digits_b, digits_j, digits_of}
use Rattle.isa.specs.declared.Inst.{Inst}
use Rattle.std.specs.Prelude.{None, Option, Some}

-- what is said of the meaning of w
abbrev pub Good : ℕ → Option Inst → Type 0
Good w (Some i) = T (in_range i) × Has w (digits_of i)
Good w None = Unit {0}

-- ---- tables of operations: each row's code passes a test with its operation, as antt computes

module _ {A : Type 0} (w : ℕ) where
  by_test : (p : ℕ → A → Bool) (t : List (ℕ × A)) (k : ℕ) (f : A → Option Inst) → T (passes p t) → ((o : A) → T (p k o) → Good w (f o))
      → Good w (find None t k f)
  by_test = found_passing (Good w) None tt

  -- the row's code is the operation's
  by_code : (code : A → ℕ) (t : List (ℕ × A)) (k : ℕ) (f : A → Option Inst) → T (passes (λ k o. eqb k (code o)) t) → ((o : A) → k ≡ code o → Good w (f o))
      → Good w (find None t k f)
  by_code code t k f ok g = by_test (λ k o. eqb k (code o)) t k f ok (λ o q. g o (eqb→eq k (code o) q))

-- .. and its other code is c, all down the table
abbrev coded : {A : Type 0} → (A → ℕ) → (A → ℕ) → ℕ → ℕ → A → Bool
coded code other c k o = eqb k (code o) && eqb c (other o)

by_codes : {A : Type 0} (w : ℕ) (code other : A → ℕ) (c : ℕ) (t : List (ℕ × A)) (k : ℕ) (f : A → Option Inst) → T (passes (coded code other c) t)
    → ((o : A) → k ≡ code o → c ≡ other o → Good w (f o)) → Good w (find None t k f)
by_codes w code other c t k f ok g =
    by_test w (coded code other c) t k f ok
    (λ o q. g o
    (eqb→eq k (code o) (and_left (eqb k (code o)) (eqb c (other o)) q))
    (eqb→eq c (other o) (and_right (eqb k (code o)) (eqb c (other o)) q)))

-- ---- the operands, by the format

reg_ok_lem : (x : ℕ) (c : Bool) → T c → T (reg_ok (reg (x % 2 ^ 5)) && c)
reg_ok_lem x c t = and_both (reg_ok (reg (x % 2 ^ 5))) c (field_ok x 5) t

module _ (w : ℕ) where
  r_good : (f7 f3 op : ℕ) → funct7 w ≡ f7 → funct3 w ≡ f3 → opcode w ≡ op
      → T (reg_ok (rd w) && (reg_ok (rs1 w) && reg_ok (rs2 w))) × Has w (format_r f7 (bits w 24 20) (bits w 19 15) f3 (bits w 11 7) op)
  r_good f7 f3 op e₇ e₃ e = (
    reg_ok_lem (w / 2 ^ 7) (reg_ok (rs1 w) && reg_ok (rs2 w)) (reg_ok_lem (w / 2 ^ 15) (reg_ok (rs2 w)) (field_ok (w / 2 ^ 20) 5)),
    kept (w / 2 ^ 25) 7 f7 e₇ and again (w / 2 ^ 20) 5 and again (w / 2 ^ 15) 5 and kept (w / 2 ^ 12) 3 f3 e₃ and again (w / 2 ^ 7) 5 and kept w 7 op e,
  )

  -- m is the immediate, and c says that it is in range
  i_good : (m f3 op : ℕ) (c : Bool) → T c → bits w 31 20 ≡ m % 2 ^ 12 → funct3 w ≡ f3 → opcode w ≡ op
      → T (reg_ok (rd w) && (reg_ok (rs1 w) && c)) × Has w (format_i m (bits w 19 15) f3 (bits w 11 7) op)
  i_good m f3 op c t em e₃ e = (
    reg_ok_lem (w / 2 ^ 7) (reg_ok (rs1 w) && c) (reg_ok_lem (w / 2 ^ 15) c t),
    em and again (w / 2 ^ 15) 5 and kept (w / 2 ^ 12) 3 f3 e₃ and again (w / 2 ^ 7) 5 and kept w 7 op e,
  )

  signed-good : (f3 op : ℕ) → funct3 w ≡ f3 → opcode w ≡ op
      → T (reg_ok (rd w) && (reg_ok (rs1 w) && signed_ok 12 (imm_i w))) × Has w (format_i (imm_i w) (bits w 19 15) f3 (bits w 11 7) op)
  signed-good f3 op = i_good (imm_i w) f3 op (signed_ok 12 (imm_i w)) (imm_ok (digits_i w) tt) (sym (imm_has (digits_i w) tt))

  s_good : (f3 op : ℕ) → funct3 w ≡ f3 → opcode w ≡ op
      → T (reg_ok (rs1 w) && (reg_ok (rs2 w) && signed_ok 12 (imm_s w))) × Has w (format_s (imm_s w) (bits w 24 20) (bits w 19 15) f3 op)
  s_good f3 op e₃ e =
      let h = imm_has (digits_s w) tt in (
        reg_ok_lem (w / 2 ^ 15) (reg_ok (rs2 w) && signed_ok 12 (imm_s w)) (reg_ok_lem (w / 2 ^ 20) (signed_ok 12 (imm_s w)) (imm_ok (digits_s w) tt)),
        sym h.0 and again (w / 2 ^ 20) 5 and again (w / 2 ^ 15) 5 and kept (w / 2 ^ 12) 3 f3 e₃ and sym h.1 and kept w 7 op e,
      )

  b_good : (f3 op : ℕ) → funct3 w ≡ f3 → opcode w ≡ op
      → T (reg_ok (rs1 w) && (reg_ok (rs2 w) && (signed_ok 13 (imm_b w) && even_ok (imm_b w)))) × Has w (format_b (imm_b w) (bits w 24 20) (bits w 19 15) f3 op)
  b_good f3 op e₃ e =
      let c = signed_ok 13 (imm_b w) && even_ok (imm_b w) in
      let h = imm_has (digits_b w) tt in (
        reg_ok_lem (w / 2 ^ 15) (reg_ok (rs2 w) && c) (reg_ok_lem (w / 2 ^ 20) c (even_ok_lem (digits_b w) tt h.1.1.1.1)),
        sym h.0 and sym h.1.1.0 and again (w / 2 ^ 20) 5 and again (w / 2 ^ 15) 5 and kept (w / 2 ^ 12) 3 f3 e₃ and sym h.1.1.1.0 and sym h.1.0 and kept w 7 op e,
      )

  u_good : (op : ℕ) → opcode w ≡ op → T (reg_ok (rd w) && ltb (field_u w) (2 ^ 20)) × Has w (format_u (field_u w) (bits w 11 7) op)
  u_good op e = (reg_ok_lem (w / 2 ^ 7) (ltb (field_u w) (2 ^ 20)) (field_ok (w / 2 ^ 12) 20), again (w / 2 ^ 12) 20 and again (w / 2 ^ 7) 5 and kept w 7 op e)

  j_good : (op : ℕ) → opcode w ≡ op → T (reg_ok (rd w) && (signed_ok 21 (imm_j w) && even_ok (imm_j w))) × Has w (format_j (imm_j w) (bits w 11 7) op)
  j_good op e =
      let h = imm_has (digits_j w) tt in (
        reg_ok_lem (w / 2 ^ 7) (signed_ok 21 (imm_j w) && even_ok (imm_j w)) (even_ok_lem (digits_j w) tt h.1.1.1.1),
        sym h.0 and sym h.1.1.1.0 and sym h.1.1.0 and sym h.1.0 and again (w / 2 ^ 7) 5 and kept w 7 op e,
      )

-- ---- the tables

module _ (w : ℕ) where
  branch_good : opcode w ≡ 0b1100011 → Good w (decode_branch (funct3 w) (rs1 w) (rs2 w) (imm_b w))
  unfolding in_range
  branch_good e =
      by_code w cond_code branches (funct3 w) (λ o. Some (Branch o (rs1 w) (rs2 w) (imm_b w))) tt (λ o e₃. b_good w (cond_code o) 0b1100011 e₃ e)

  load-good : opcode w ≡ 0b0000011 → Good w (decode_load (funct3 w) (rd w) (rs1 w) (imm_i w))
  unfolding in_range
  load-good e = by_code w load_code loads (funct3 w) (λ o. Some (Load o (rd w) (rs1 w) (imm_i w))) tt (λ o e₃. signed-good w (load_code o) 0b0000011 e₃ e)

  store-good : opcode w ≡ 0b0100011 → Good w (decode_store (funct3 w) (rs1 w) (rs2 w) (imm_s w))
  unfolding in_range
  store-good e = by_code w store_code stores (funct3 w) (λ o. Some (Store o (rs1 w) (rs2 w) (imm_s w))) tt (λ o e₃. s_good w (store_code o) 0b0100011 e₃ e)

  imm_good : opcode w ≡ 0b0010011 → (o : ImmOp) → funct3 w ≡ imm_code o → Good w (Some (Imm o (rd w) (rs1 w) (imm_i w)))
  unfolding in_range
  imm_good e o e₃ = signed-good w (imm_code o) 0b0010011 e₃ e

  -- the shifts with funct3 f3
  shift-good : (t : List (ℕ × ShiftOp)) (f3 : ℕ) → T (passes (coded shift_code7 shift_code f3) t) → opcode w ≡ 0b0010011 → funct3 w ≡ f3
      → Good w (decode_shift t (funct7 w) (rd w) (rs1 w) (shamt w))
  unfolding in_range
  shift-good t f3 ok e e₃ =
      by_codes w shift_code7 shift_code f3 t (funct7 w) (λ o. Some (Shift o (rd w) (rs1 w) (shamt w))) ok
      (λ o e₇ is. r_good w (shift_code7 o) (shift_code o) 0b0010011 e₇ (e₃ ∙ is) e)

  immediate_good : opcode w ≡ 0b0010011 → Good w (decode_immediate (funct3 w) (funct7 w) (rd w) (rs1 w) (shamt w) (imm_i w))
  immediate_good e =
      found (Good w) None tt (immediates (funct7 w) (rd w) (rs1 w) (shamt w) (imm_i w)) (funct3 w) (λ m. m)
      (imm_good e Addi
      and imm_good e Slti
      and imm_good e Sltiu
      and imm_good e Xori
      and imm_good e Ori
      and imm_good e Andi
      and shift-good lefts 0b001 tt e
      and shift-good rights 0b101 tt e
      and tt)

  -- the operations with funct7 f7
  arith-good : (t : List (ℕ × ArithOp)) (f7 : ℕ) → T (passes (coded arith_code arith_code7 f7) t) → opcode w ≡ 0b0110011 → funct7 w ≡ f7
      → Good w (decode_arith t (funct3 w) (rd w) (rs1 w) (rs2 w))
  unfolding in_range
  arith-good t f7 ok e e₇ =
      by_codes w arith_code arith_code7 f7 t (funct3 w) (λ o. Some (Arith o (rd w) (rs1 w) (rs2 w))) ok
      (λ o e₃ is. r_good w (arith_code7 o) (arith_code o) 0b0110011 (e₇ ∙ is) e₃ e)

  mul_div_good : opcode w ≡ 0b0110011 → funct7 w ≡ 0b0000001 → Good w (decode_mul_div (funct3 w) (rd w) (rs1 w) (rs2 w))
  unfolding in_range
  mul_div_good e e₇ =
      by_code w mul_div_code mul_divs (funct3 w) (λ o. Some (MulDiv o (rd w) (rs1 w) (rs2 w))) tt (λ o e₃. r_good w 0b0000001 (mul_div_code o) 0b0110011 e₇ e₃ e)

  register-good : opcode w ≡ 0b0110011 → Good w (decode_register (funct7 w) (funct3 w) (rd w) (rs1 w) (rs2 w))
  register-good e =
      found (Good w) None tt (registers (funct3 w) (rd w) (rs1 w) (rs2 w)) (funct7 w) (λ m. m)
      (arith-good ariths 0b0000000 tt e and arith-good others 0b0100000 tt e and mul_div_good e and tt)

  -- a table of one row
  only : (k : ℕ) (m : Option Inst) → (funct3 w ≡ k → Good w m) → Good w (find None ((k, m) ∷ []) (funct3 w) (λ m. m))
  only k m g = found (Good w) None tt ((k, m) ∷ []) (funct3 w) (λ m. m) (g and tt)

  jalr_good : opcode w ≡ 0b1100111 → Good w (decode_jalr (funct3 w) (rd w) (rs1 w) (imm_i w))
  unfolding in_range
  jalr_good e = only 0b000 (Some (Jalr (rd w) (rs1 w) (imm_i w))) (λ e₃. signed-good w 0b000 0b1100111 e₃ e)

  fence_good : opcode w ≡ 0b0001111 → Good w (decode_fence (funct3 w) (rd w) (rs1 w) (funct12 w))
  unfolding in_range
  fence_good e =
      only 0b000 (Some (Fence (rd w) (rs1 w) (funct12 w)))
      (λ e₃. i_good w (funct12 w) 0b000 0b0001111 (ltb (funct12 w) (2 ^ 12)) (field_ok (w / 2 ^ 20) 12) (again (w / 2 ^ 20) 12) e₃ e)

  -- the instructions that are one whole word each
  system_good : Good w (decode_system w)
  unfolding in_range
  system_good =
      by_test w (λ k i. in_range i && eqb (value (digits_of i)) k) systems w (λ i. Some i) tt
      (λ i q. (
        and_left (in_range i) (eqb (value (digits_of i)) w) q,
        subst (λ (v : ℕ). Has v (digits_of i)) (eqb→eq (value (digits_of i)) w (and_right (in_range i) (eqb (value (digits_of i)) w) q)) (value_has (digits_of i)),
      ))

  pub means : Good w (decoded w)
  unfolding decoded in_range
  means =
      found (Good w) None tt (opcodes w) (opcode w) (λ m. m)
      (u_good w 0b0110111
      and u_good w 0b0010111
      and j_good w 0b1101111
      and jalr_good
      and branch_good
      and load-good
      and store-good
      and immediate_good
      and register-good
      and fence_good
      and (λ e. system_good)
      and tt)
