-- How long the text of an instruction is: at most 19 bytes where it is in range. Each text is a name and one of a few
-- forms of operands, so its length is a sum, of which every part has its bound: a register 3 bytes, a signed number a sign and the digits of its bits.
use mathlib.Core.Path.{◌≡◌, ap}
use mathlib.Core.Bool.{Bool, true, ◌&&◌}
use mathlib.Core.List.{List, ◌++◌}
use mathlib.Core.Logic.{⊎_elim}
use Prim.Native.Nat.{ℕ, suc, ◌+◌, ◌-◌, ◌/◌, ◌^◌, ◌≤◌, ◌<◌}
use native.Mathlib.Nat.{mod-lt, div-eq_of_lt, div-eq_of_lt-le}
use native.Mathlib.Omega.{arith}
use lib.Dec.{T, leb, ltb, leb→le, ltb→lt, eqb→eq, lit≤}
use lib.ListN.{length, length-append}
use lib.Pow.{pow_pos, pow_mono}
use Rattle.word.specs.Bits.{low, sext}
use Rattle.word.proofs.Signs.{sext_clear, sext_set}
use Rattle.word.proofs.Bools.{and_left, and_right, holds, below}
use Rattle.ascii.specs.Numbers.{decimal, signed_decimal}
use Rattle.ascii.proofs.Numbers.{decimal_bound, signed-plain, signed-minus}
use Rattle.isa.specs.declared.Reg.{Reg}
use Rattle.isa.specs.declared.Inst.{Inst}
use Rattle.isa.specs.declared.Inst.TheVariants.{Lui, Auipc, Jal, Jalr, Branch, Load, Store, Imm, Shift, Arith, Fence, Ecall, Ebreak, MulDiv}
use Rattle.isa.specs.Operations.{parts_of, cond_number, load_number, store_number, imm_number, shift_number, arith_number, mul_div_number}
use Rattle.isa.specs.Encoding.{in_range, reg_ok, signed_ok, even_ok}
use Rattle.roundtrip.proofs.Same.{each}
use Rattle.text.specs.Names.{names, name_at}
use Rattle.text.specs.Text.{space, comma, parens, register_text, operands_of, text_of, short_text_of}

-- ---- numbers

-- a field below m
field_fits : (d m n : ℕ) → m ≤ 10 ^ suc d → T (ltb n m) → length (decimal n) ≤ suc d
field_fits d m n e t = decimal_bound d n (omega (arith, ltb→lt n m t))

-- a signed number that is not negative, and one that is
pub plus_fits : (d n : ℕ) → n < 2 ^ 31 → n < 10 ^ suc d → length (signed_decimal n) ≤ suc d
plus_fits d n l h = rw (signed-plain n l) (decimal_bound d n h)

minus-fits : (d n : ℕ) → 2 ^ 31 ≤ n → 2 ^ 32 - n < 10 ^ suc d → length (signed_decimal n) ≤ suc (suc d)
minus-fits d n l h = rw (signed-minus n l) (omega (arith, decimal_bound d (2 ^ 32 - n) h))

-- d + 1 digits do for k bits with a sign, which reach down to -2 ^ (k - 1)
abbrev pub Enough : ℕ → ℕ → Type 0
Enough d k = (0 < k) × (k < 32) × (2 ^ (k - 1) < 10 ^ suc d)

pub sext-fits : (d k x : ℕ) → Enough d k → x < 2 ^ k → length (signed_decimal (sext k x)) ≤ suc (suc d)
sext-fits d k x e h = ⊎_elim clear set (below x (2 ^ (k - 1)))
  where
    next : k ≡ suc (k - 1)
    next = omega arith

    twice : 2 ^ k ≡ 2 ^ suc (k - 1)
    twice = ap (λ (n : ℕ). 2 ^ n) next

    small : 2 ^ (k - 1) ≤ 2 ^ 30
    small = pow_mono {j = 30} (omega arith)

    clear : x < 2 ^ (k - 1) → length (signed_decimal (sext k x)) ≤ suc (suc d)
    clear l = rw (sext_clear k x (div-eq_of_lt l)) (omega (arith, plus_fits d x (omega (arith, small)) (omega arith)))

    set : 2 ^ (k - 1) ≤ x → length (signed_decimal (sext k x)) ≤ suc (suc d)
    set l =
        let one : x / 2 ^ (k - 1) ≡ 1 = div-eq_of_lt-le (2 ^ (k - 1)) (omega arith) (omega (arith, twice)) in
        rw (sext_set k x one) (minus-fits d (2 ^ 32 - 2 ^ k + x) (omega (arith, twice, small)) (omega (arith, twice, small)))

-- an immediate of k bits with a sign
pub signed-fits : (d k imm : ℕ) → Enough d k → T (signed_ok k imm) → length (signed_decimal imm) ≤ suc (suc d)
signed-fits d k imm t s = rw (eqb→eq (sext k (low k imm)) imm s) at (sext-fits d k (low k imm) t (mod-lt imm (pow_pos k)))

-- ---- registers

reg-fits : (r : Reg) → T (reg_ok r) → length (register_text r) ≤ 3
reg-fits r t = omega (arith, field_fits 1 32 r.number (omega arith) t)

-- a register, and what is tested besides
reg_and : (a : Reg) (c : Bool) → T (reg_ok a && c) → (length (register_text a) ≤ 3) × T c
reg_and a c t = (reg-fits a (and_left (reg_ok a) c t), and_right (reg_ok a) c t)

regs_and : (a b : Reg) (c : Bool) → T (reg_ok a && (reg_ok b && c)) → (length (register_text a) ≤ 3) × (length (register_text b) ≤ 3) × T c
regs_and a b c t =
    let f = reg_and a (reg_ok b && c) t in
    let g = reg_and b c f.1 in
    (f.0, g.0, g.1)

-- ---- the forms of operands, each after a name

module _ (name : List ℕ) (a : Reg) where
  pub one_reg : (t : List ℕ) → length (name ++ (space (register_text a) ++ comma t)) ≡ length name + length (register_text a) + length t + 2
  one_reg t = simp length-append (omega arith)

  pub two_regs : (b : Reg) (t : List ℕ)
      → length (name ++ (space (register_text a) ++ comma (register_text b) ++ comma t)) ≡ length name + length (register_text a) + length (register_text b) + length t + 3
  two_regs b t = simp length-append (omega arith)

  pub address : (b : Reg) (t : List ℕ)
      → length (name ++ (space (register_text a) ++ comma t ++ parens (register_text b))) ≡ length name + length (register_text a) + length (register_text b) + length t + 4
  address b t = simp length-append (omega arith)

-- ---- the names of each class

-- the longest name that the class has
abbrev name_most : Inst → ℕ
name_most (Lui rd field) = 3
name_most (Auipc rd field) = 5
name_most (Jal rd imm) = 3
name_most (Jalr rd rs1 imm) = 4
name_most (Branch o rs1 rs2 imm) = 4
name_most (Load o rd rs1 imm) = 3
name_most (Store o rs1 rs2 imm) = 2
name_most (Imm o rd rs1 imm) = 5
name_most (Shift o rd rs1 amount) = 4
name_most (Arith o rd rs1 rs2) = 4
name_most (Fence rd rs1 field) = 5
name_most Ecall = 5
name_most Ebreak = 6
name_most (MulDiv o rd rs1 rs2) = 6

-- one test that antt computes at the 48 operations
pub name_fits : (i : Inst) → length (name_at (parts_of i).operation) ≤ name_most i
unfolding names name_at
name_fits i = leb→le _ _ (each (λ i. leb (length (name_at (parts_of i).operation)) (name_most i)) (λ d s t v. tt) i)

-- ---- all instructions

fits : (i : Inst) → T (in_range i) → length (text_of i) ≤ 19
unfolding in_range names name_at operands_of text_of
fits (Lui rd field) t =
    let f = reg_and rd (ltb field (2 ^ 20)) t in
    omega (arith, one_reg (name_at 0) rd (decimal field), field_fits 6 (2 ^ 20) field (omega arith) f.1)
fits (Auipc rd field) t =
    let f = reg_and rd (ltb field (2 ^ 20)) t in
    omega (arith, one_reg (name_at 1) rd (decimal field), field_fits 6 (2 ^ 20) field (omega arith) f.1)
fits (Jal rd imm) t =
    let f = reg_and rd (signed_ok 21 imm && even_ok imm) t in
    omega (arith, one_reg (name_at 2) rd (signed_decimal imm), signed-fits 6 21 imm (omega arith) (and_left (signed_ok 21 imm) (even_ok imm) f.1))
fits (Jalr rd rs1 imm) t =
    let f = regs_and rd rs1 (signed_ok 12 imm) t in
    omega (arith, address (name_at 3) rd rs1 (signed_decimal imm), signed-fits 3 12 imm (omega arith) f.2)
fits (Branch o rs1 rs2 imm) t =
    let f = regs_and rs1 rs2 (signed_ok 13 imm && even_ok imm) t in
    omega (arith, two_regs (name_at (cond_number o)) rs1 rs2 (signed_decimal imm), name_fits (Branch o rs1 rs2 imm), signed-fits 3 13 imm (omega arith) (and_left (signed_ok 13 imm) (even_ok imm) f.2))
fits (Load o rd rs1 imm) t =
    let f = regs_and rd rs1 (signed_ok 12 imm) t in
    omega (arith, address (name_at (load_number o)) rd rs1 (signed_decimal imm), name_fits (Load o rd rs1 imm), signed-fits 3 12 imm (omega arith) f.2)
fits (Store o rs1 rs2 imm) t =
    let f = regs_and rs1 rs2 (signed_ok 12 imm) t in
    omega (arith, address (name_at (store_number o)) rs2 rs1 (signed_decimal imm), name_fits (Store o rs1 rs2 imm), signed-fits 3 12 imm (omega arith) f.2)
fits (Imm o rd rs1 imm) t =
    let f = regs_and rd rs1 (signed_ok 12 imm) t in
    omega (arith, two_regs (name_at (imm_number o)) rd rs1 (signed_decimal imm), name_fits (Imm o rd rs1 imm), signed-fits 3 12 imm (omega arith) f.2)
fits (Shift o rd rs1 amount) t =
    let f = regs_and rd rs1 (ltb amount 32) t in
    omega (arith, two_regs (name_at (shift_number o)) rd rs1 (decimal amount), name_fits (Shift o rd rs1 amount), field_fits 1 32 amount (omega arith) f.2)
fits (Arith o rd rs1 rs2) t =
    let f = regs_and rd rs1 (reg_ok rs2) t in
    omega (arith, two_regs (name_at (arith_number o)) rd rs1 (register_text rs2), name_fits (Arith o rd rs1 rs2), reg-fits rs2 f.2)
fits (Fence rd rs1 field) t =
    let f = regs_and rd rs1 (ltb field (2 ^ 12)) t in
    omega (arith, two_regs (name_at 37) rd rs1 (decimal field), field_fits 3 (2 ^ 12) field (omega arith) f.2)
fits Ecall t = lit≤ tt
fits Ebreak t = lit≤ tt
fits (MulDiv o rd rs1 rs2) t =
    let f = regs_and rd rs1 (reg_ok rs2) t in
    omega (arith, two_regs (name_at (mul_div_number o)) rd rs1 (register_text rs2), name_fits (MulDiv o rd rs1 rs2), reg-fits rs2 f.2)

pub text_fits : (i : Inst) → in_range i ≡ true → length (text_of i) ≤ 19
text_fits i e = fits i (holds (in_range i) e)

-- with c: in front
pub short_text_bound : (i : Inst) → in_range i ≡ true → length (short_text_of i) ≤ 21
unfolding short_text_of
short_text_bound i e = omega (arith, text_fits i e)
