-- How long the text of a short instruction is: at most 18 bytes. Each row of the tables has its operation, registers of a few bits
-- and an immediate of a few bits, so its bound; what holds of each row holds of what is found there.
use mathlib.Core.Path.{◌≡◌, subst}
use mathlib.Core.Bool.{Bool, true, false, cond}
use mathlib.Core.List.{List, ◌++◌}
use Prim.Native.Nat.{ℕ, suc, ◌+◌, ◌^◌, ◌≤◌, ◌<◌}
use native.Mathlib.Omega.{arith}
use lib.Dec.{eqb, lit≤}
use lib.ListN.{length}
use Rattle.word.specs.Bits.{bits, low}
use Rattle.word.specs.Tables.{find}
use Rattle.word.proofs.Bools.{either}
use Rattle.word.proofs.Rows.{◌and◌, Each, found}
use Rattle.ascii.specs.Numbers.{decimal, signed_decimal}
use Rattle.ascii.proofs.Numbers.{decimal_bound}
use Rattle.isa.specs.declared.Reg.{Reg}
use Rattle.isa.specs.declared.Inst.{Inst}
use Rattle.isa.specs.declared.Inst.TheVariants.{Lui, Jal, Jalr, Branch, Load, Imm, Shift, Arith, Ebreak}
use Rattle.isa.specs.declared.Cond.{Cond}
use Rattle.isa.specs.declared.Cond.TheVariants.{Beq, Bne}
use Rattle.isa.specs.declared.LoadOp.TheVariants.{Lw}
use Rattle.isa.specs.declared.ImmOp.{ImmOp}
use Rattle.isa.specs.declared.ImmOp.TheVariants.{Addi, Andi}
use Rattle.isa.specs.declared.ShiftOp.{ShiftOp}
use Rattle.isa.specs.declared.ShiftOp.TheVariants.{Slli, Srli, Srai}
use Rattle.isa.specs.declared.ArithOp.{ArithOp}
use Rattle.isa.specs.declared.ArithOp.TheVariants.{Add, Sub, Xor, Or, And}
use Rattle.isa.specs.Registers.{x0, ra, sp}
use Rattle.isa.specs.Operations.{cond_number, imm_number, shift_number, arith_number}
use Rattle.isa.specs.Rvc.{reg11_7, reg6_2, short9_7, short4_2, imm6, field_lui, imm16sp, imm4spn, imm_lw, imm_lwsp, imm_swsp, imm_cj, imm_cb, nonzero, clear12, c_addi4spn, quadrant0, c_addi16sp, c_lui, c_upper, pairs, alus, illegal, c_alu, c_branch, quadrant1, c_lwsp, c_jr, c_mv, c_jalr, c_add, c_register, c_swsp, quadrant2, quadrants, expanded}
use Rattle.text.specs.Names.{names, name_at}
use Rattle.text.specs.Text.{space, comma, parens, register_text, operands_of, text_of, short_text_of}
use Rattle.text.proofs.Lengths.{plus_fits, sext-fits, one_reg, two_regs, address, name_fits}
use Rattle.std.specs.Prelude.{None, Option, Some}

-- what is said of the meaning of a halfword
abbrev pub Fits : Option Inst → Type 0
Fits (Some i) = length (text_of i) ≤ 16
Fits None = Unit {0}

nonzero-fits : (n : ℕ) (i : Inst) → Fits (Some i) → Fits (nonzero n i)
nonzero-fits n i f = either Fits (eqb n 0) None (Some i) tt f

clear_fits : (h : ℕ) (i : Inst) → Fits (Some i) → Fits (clear12 h i)
clear_fits h i f = either Fits (eqb (bits h 12 12) 0) (Some i) None f tt

-- ---- the forms of operands

one_fits : (name t : List ℕ) (a : Reg) → a.number < 32 → length name + length t ≤ 11 → length (name ++ (space (register_text a) ++ comma t)) ≤ 16
one_fits name t a l n = omega (arith, one_reg name a t, decimal_bound 1 a.number (omega arith))

-- the second register has at most k + 1 digits
two_fits : (k : ℕ) (name t : List ℕ) (a b : Reg) → a.number < 32 → b.number < 10 ^ suc k → length name + length t + k ≤ 8
    → length (name ++ (space (register_text a) ++ comma (register_text b) ++ comma t)) ≤ 16
two_fits k name t a b l m n = omega (arith, two_regs name a b t, decimal_bound 1 a.number (omega arith), decimal_bound k b.number m)

address_fits : (name t : List ℕ) (a b : Reg) → a.number < 32 → b.number < 32 → length name + length t ≤ 6
    → length (name ++ (space (register_text a) ++ comma t ++ parens (register_text b))) ≤ 16
address_fits name t a b l m n =
    omega (arith, address name a b t, decimal_bound 1 a.number (omega arith), decimal_bound 1 b.number (omega arith))

-- ---- the rows

arith-fits : (o : ArithOp) (a b c : Reg) → a.number < 32 → b.number < 32 → c.number < 32 → Fits (Some (Arith o a b c))
unfolding operands_of text_of
arith-fits o a b c l m n =
    two_fits 1 (name_at (arith_number o)) (register_text c) a b l (omega arith) (omega (arith, name_fits (Arith o a b c), decimal_bound 1 c.number (omega arith)))

-- addi from the stack pointer
sp-fits : (r : Reg) (imm : ℕ) → r.number < 32 → length (signed_decimal imm) ≤ 4 → Fits (nonzero imm (Imm Addi r sp imm))
unfolding names name_at operands_of text_of
sp-fits r imm l n = nonzero-fits imm (Imm Addi r sp imm) (two_fits 0 (name_at 18) (signed_decimal imm) r sp l (omega arith) (omega arith))

module _ (h : ℕ) where
  -- quadrant 0

  addi4spn_fits : Fits (c_addi4spn h)
  addi4spn_fits = sp-fits (short4_2 h) (imm4spn h) (omega arith) (plus_fits 3 (imm4spn h) (omega arith) (omega arith))

  -- C.LW and C.SW
  word_fits : (name : List ℕ) → length name ≤ 2
      → length (name ++ (space (register_text (short4_2 h)) ++ comma (signed_decimal (imm_lw h)) ++ parens (register_text (short9_7 h)))) ≤ 16
  word_fits name n =
      address_fits name (signed_decimal (imm_lw h)) (short4_2 h) (short9_7 h) (omega arith) (omega arith) (omega (arith, plus_fits 2 (imm_lw h) (omega arith) (omega arith)))

  -- quadrant 1

  -- C.ADDI, C.LI and C.ANDI
  imm6-fits : (o : ImmOp) (a b : Reg) → length (name_at (imm_number o)) ≤ 4 → a.number < 32 → b.number < 32 → Fits (Some (Imm o a b (imm6 h)))
  unfolding operands_of text_of
  imm6-fits o a b n l m =
      let imm : length (signed_decimal (imm6 h)) ≤ 3 = sext-fits 1 6 _ (omega arith) (omega arith) in
      two_fits 1 (name_at (imm_number o)) (signed_decimal (imm6 h)) a b l (omega arith) (omega arith)

  jal_fits : (r : Reg) → r.number < 32 → Fits (Some (Jal r (imm_cj h)))
  unfolding names name_at operands_of text_of
  jal_fits r l =
      let imm : length (signed_decimal (imm_cj h)) ≤ 5 = sext-fits 3 12 _ (omega arith) (omega arith) in
      one_fits (name_at 2) (signed_decimal (imm_cj h)) r l (omega arith)

  addi16sp_fits : Fits (c_addi16sp h)
  addi16sp_fits = sp-fits sp (imm16sp h) (omega arith) (sext-fits 2 10 _ (omega arith) (omega arith))

  lui_fits : Fits (c_lui h)
  unfolding names name_at operands_of text_of
  lui_fits =
      nonzero-fits (field_lui h) (Lui (reg11_7 h) (field_lui h))
      (one_fits (name_at 0) (decimal (field_lui h)) (reg11_7 h) (omega arith) (omega (arith, decimal_bound 6 (field_lui h) (omega arith))))

  upper_fits : Fits (c_upper h)
  upper_fits = either Fits (eqb (bits h 11 7) 2) (c_addi16sp h) (c_lui h) addi16sp_fits lui_fits

  shift_fits : (o : ShiftOp) (r : Reg) → r.number < 32 → Fits (clear12 h (Shift o r r (bits h 6 2)))
  unfolding operands_of text_of
  shift_fits o r l =
      clear_fits h (Shift o r r (bits h 6 2))
      (two_fits 1 (name_at (shift_number o)) (decimal (bits h 6 2)) r r l (omega arith) (omega (arith, name_fits (Shift o r r (bits h 6 2)), decimal_bound 1 (bits h 6 2) (omega arith))))

  abbrev pair : ArithOp → Option Inst
  pair o = clear12 h (Arith o (short9_7 h) (short9_7 h) (short4_2 h))

  pair_fits : (o : ArithOp) → Fits (pair o)
  pair_fits o = clear_fits h (Arith o (short9_7 h) (short9_7 h) (short4_2 h)) (arith-fits o (short9_7 h) (short9_7 h) (short4_2 h) (omega arith) (omega arith) (omega arith))

  pairs_fit : Fits (find None pairs (bits h 6 5) pair)
  pairs_fit =
      found Fits None tt pairs (bits h 6 5) pair ((λ e. pair_fits Sub) and (λ e. pair_fits Xor) and (λ e. pair_fits Or) and (λ e. pair_fits And) and tt)

  alu_fits : Fits (c_alu h)
  unfolding names name_at
  alu_fits =
      found (λ m. Fits (m h)) illegal tt alus (bits h 11 10) (λ m. m)
      ((λ e. shift_fits Srli (short9_7 h) (omega arith))
      and (λ e. shift_fits Srai (short9_7 h) (omega arith))
      and (λ e. imm6-fits Andi (short9_7 h) (short9_7 h) (lit≤ tt) (omega arith) (omega arith))
      and (λ e. pairs_fit)
      and tt)

  branch_fits : (o : Cond) → Fits (c_branch o h)
  unfolding operands_of text_of
  branch_fits o =
      let imm : length (signed_decimal (imm_cb h)) ≤ 4 = sext-fits 2 9 _ (omega arith) (omega arith) in
      two_fits 0 (name_at (cond_number o)) (signed_decimal (imm_cb h)) (short9_7 h) x0 (omega arith) (omega arith) (omega (arith, name_fits (Branch o (short9_7 h) x0 (imm_cb h))))

  -- quadrant 2

  lwsp_fits : Fits (c_lwsp h)
  unfolding names name_at operands_of text_of
  lwsp_fits =
      nonzero-fits (bits h 11 7) (Load Lw (reg11_7 h) sp (imm_lwsp h))
      (address_fits (name_at 12) (signed_decimal (imm_lwsp h)) (reg11_7 h) sp (omega arith) (omega arith) (omega (arith, plus_fits 2 (imm_lwsp h) (omega arith) (omega arith))))

  swsp_fits : Fits (c_swsp h)
  unfolding names name_at operands_of text_of
  swsp_fits =
      address_fits (name_at 17) (signed_decimal (imm_swsp h)) (reg6_2 h) sp (omega arith) (omega arith) (omega (arith, plus_fits 2 (imm_swsp h) (omega arith) (omega arith)))

  jalr_fits : (r : Reg) → r.number < 32 → Fits (Some (Jalr r (reg11_7 h) 0))
  unfolding names name_at operands_of text_of
  jalr_fits r l = address_fits (name_at 3) (signed_decimal 0) r (reg11_7 h) l (omega arith) (omega (arith, plus_fits 0 0 (omega arith) (omega arith)))

  -- C.EBREAK or C.JALR
  break_fits : (b : Bool) → Fits (Some (cond b Ebreak (Jalr ra (reg11_7 h) 0)))
  unfolding names name_at operands_of text_of
  break_fits true = lit≤ tt
  break_fits false = jalr_fits ra (omega arith)

  register-fits : Fits (c_register h)
  register-fits =
      let zero = eqb (bits h 6 2) 0 in
      either Fits (eqb (bits h 12 12) 0) (cond zero (c_jr h) (c_mv h)) (cond zero (c_jalr h) (c_add h))
      (either Fits zero (c_jr h) (c_mv h)
      (nonzero-fits (bits h 11 7) (Jalr x0 (reg11_7 h) 0) (jalr_fits x0 (omega arith)))
      (arith-fits Add (reg11_7 h) x0 (reg6_2 h) (omega arith) (omega arith) (omega arith)))
      (either Fits zero (c_jalr h) (c_add h)
      (break_fits (eqb (bits h 11 7) 0))
      (arith-fits Add (reg11_7 h) (reg11_7 h) (reg6_2 h) (omega arith) (omega arith) (omega arith)))

  -- all halfwords

  abbrev Row : (ℕ → Option Inst) → Type 0
  Row m = Fits (m h)

  abbrev Rows : List (ℕ × (ℕ → Option Inst)) → Type 0
  Rows q = Each Row q (bits h 15 13) (λ m. m)

  rows-0 : Rows quadrant0
  unfolding names name_at operands_of text_of
  rows-0 = (λ e. addi4spn_fits) and (λ e. word_fits (name_at 12) (lit≤ tt)) and (λ e. word_fits (name_at 17) (lit≤ tt)) and tt

  rows_1 : Rows quadrant1
  unfolding names name_at
  rows_1 =
      (λ e. imm6-fits Addi (reg11_7 h) (reg11_7 h) (lit≤ tt) (omega arith) (omega arith))
      and (λ e. jal_fits ra (omega arith))
      and (λ e. imm6-fits Addi (reg11_7 h) x0 (lit≤ tt) (omega arith) (omega arith))
      and (λ e. upper_fits)
      and (λ e. alu_fits)
      and (λ e. jal_fits x0 (omega arith))
      and (λ e. branch_fits Beq)
      and (λ e. branch_fits Bne)
      and tt

  rows-2 : Rows quadrant2
  rows-2 = (λ e. shift_fits Slli (reg11_7 h) (omega arith)) and (λ e. lwsp_fits) and (λ e. register-fits) and (λ e. swsp_fits) and tt

  quadrant : (q : List (ℕ × (ℕ → Option Inst))) → Rows q → Row (find illegal q (bits h 15 13) (λ m. m))
  quadrant q e = found Row illegal tt q (bits h 15 13) (λ m. m) e

  pub expanded-fits : Fits (expanded h)
  unfolding expanded
  expanded-fits =
      found Row illegal tt quadrants (low 2 h) (λ q. find illegal q (bits h 15 13) (λ m. m))
      ((λ e. quadrant quadrant0 rows-0) and (λ e. quadrant quadrant1 rows_1) and (λ e. quadrant quadrant2 rows-2) and tt)

pub short_longest : (h : ℕ) (i : Inst) → expanded h ≡ Some i → length (short_text_of i) ≤ 18
unfolding short_text_of
short_longest h i e =
    let f : Fits (Some i) = subst Fits e (expanded-fits h) in
    omega arith
