-- Instructions with the same parts are equal: each comes back from its parts, by a row of one table. So what holds of each row holds of every instruction.
use mathlib.Core.Path.{◌≡◌, refl, sym, ap, subst, ◌∙◌}
use mathlib.Core.Bool.{Bool, ◌&&◌}
use Prim.Native.Nat.{ℕ}
use lib.Dec.{T, eqb, eqb→eq}
use Rattle.word.specs.Tables.{find}
use Rattle.word.proofs.Bools.{and_left, and_right}
use Rattle.word.proofs.Rows.{passes, found_passing, found_through}
use Rattle.isa.specs.declared.Inst.{Inst}
use Rattle.isa.specs.declared.Inst.TheVariants.{Lui, Auipc, Jal, Jalr, Branch, Load, Store, Imm, Shift, Arith, Fence, Ecall, Ebreak, MulDiv}
use Rattle.isa.specs.declared.Cond.TheVariants.{Beq, Bne, Blt, Bge, Bltu, Bgeu}
use Rattle.isa.specs.declared.LoadOp.TheVariants.{Lb, Lh, Lw, Lbu, Lhu}
use Rattle.isa.specs.declared.StoreOp.TheVariants.{Sb, Sh, Sw}
use Rattle.isa.specs.declared.ImmOp.TheVariants.{Addi, Slti, Sltiu, Xori, Ori, Andi}
use Rattle.isa.specs.declared.ShiftOp.TheVariants.{Slli, Srli, Srai}
use Rattle.isa.specs.declared.ArithOp.TheVariants.{Add, Sub, Sll, Slt, Sltu, Xor, Srl, Sra, Or, And}
use Rattle.isa.specs.declared.MulDivOp.TheVariants.{Mul, Mulh, Mulhsu, Mulhu, Div, Divu, Rem, Remu}
use Rattle.isa.specs.declared.Parts.{Parts}
use Rattle.isa.specs.Operations.{parts, parts_of, same_parts}
use Rattle.isa.specs.Building.{operations, built}

pub back : (i : Inst) → built (parts_of i) ≡ i
unfolding built
back (Lui d v) = refl
back (Auipc d v) = refl
back (Jal d v) = refl
back (Jalr d s v) = refl
back (Branch Beq s t v) = refl
back (Branch Bne s t v) = refl
back (Branch Blt s t v) = refl
back (Branch Bge s t v) = refl
back (Branch Bltu s t v) = refl
back (Branch Bgeu s t v) = refl
back (Load Lb d s v) = refl
back (Load Lh d s v) = refl
back (Load Lw d s v) = refl
back (Load Lbu d s v) = refl
back (Load Lhu d s v) = refl
back (Store Sb s t v) = refl
back (Store Sh s t v) = refl
back (Store Sw s t v) = refl
back (Imm Addi d s v) = refl
back (Imm Slti d s v) = refl
back (Imm Sltiu d s v) = refl
back (Imm Xori d s v) = refl
back (Imm Ori d s v) = refl
back (Imm Andi d s v) = refl
back (Shift Slli d s v) = refl
back (Shift Srli d s v) = refl
back (Shift Srai d s v) = refl
back (Arith Add d s t) = refl
back (Arith Sub d s t) = refl
back (Arith Sll d s t) = refl
back (Arith Slt d s t) = refl
back (Arith Sltu d s t) = refl
back (Arith Xor d s t) = refl
back (Arith Srl d s t) = refl
back (Arith Sra d s t) = refl
back (Arith Or d s t) = refl
back (Arith And d s t) = refl
back (Fence d s v) = refl
back Ecall = refl
back Ebreak = refl
back (MulDiv Mul d s t) = refl
back (MulDiv Mulh d s t) = refl
back (MulDiv Mulhsu d s t) = refl
back (MulDiv Mulhu d s t) = refl
back (MulDiv Div d s t) = refl
back (MulDiv Divu d s t) = refl
back (MulDiv Rem d s t) = refl
back (MulDiv Remu d s t) = refl

pub parts_same : (p q : Parts) → T (same_parts p q) → p ≡ q
parts_same p q t =
    let t5 = eqb p.imm q.imm in
    let t4 = eqb p.rs2 q.rs2 && t5 in
    let t3 = eqb p.rs1 q.rs1 && t4 in
    let t2 = eqb p.rd q.rd && t3 in
    let u2 = and_right (eqb p.operation q.operation) t2 t in
    let u3 = and_right (eqb p.rd q.rd) t3 u2 in
    let u4 = and_right (eqb p.rs1 q.rs1) t4 u3 in
    let u5 = and_right (eqb p.rs2 q.rs2) t5 u4 in
    parts_eq (eqb→eq _ _ (and_left (eqb p.operation q.operation) t2 t)) (eqb→eq _ _ (and_left (eqb p.rd q.rd) t3 u2))
    (eqb→eq _ _ (and_left (eqb p.rs1 q.rs1) t4 u3))
    (eqb→eq _ _ (and_left (eqb p.rs2 q.rs2) t5 u4))
    (eqb→eq _ _ u5)
  where
    parts_eq : {a b c d e a' b' c' d' e' : ℕ} → a ≡ a' → b ≡ b' → c ≡ c' → d ≡ d' → e ≡ e' → parts a b c d e ≡ parts a' b' c' d' e'
    parts_eq j k l m n = λ i. parts (j i) (k i) (l i) (m i) (n i)

pub same : (i j : Inst) → T (same_parts (parts_of i) (parts_of j)) → i ≡ j
same i j t = sym (back i) ∙ ap built (parts_same (parts_of i) (parts_of j) t) ∙ back j

-- ---- what every instruction passes

-- a test that each operation passes, whatever its operands are; Ecall stands where a number has no row
pub each : (f : Inst → Bool) → ((d s t v : ℕ) → T (f Ecall && passes (λ k i. f i) (operations d s t v))) → (i : Inst) → T (f i)
unfolding built
each f h i = subst (λ j. T (f j)) (back i) (at (parts_of i))
  where
    at : (p : Parts) → T (f (find Ecall (operations p.rd p.rs1 p.rs2 p.imm) p.operation (λ j. j)))
    at p =
        let rows = operations p.rd p.rs1 p.rs2 p.imm in
        let both = h p.rd p.rs1 p.rs2 p.imm in
        found_passing (λ j. T (f j)) Ecall (and_left (f Ecall) _ both) (λ k i. f i) rows p.operation (λ j. j) (and_right (f Ecall) _ both) (λ j t. t)

-- ---- what the operation alone decides

-- f does not look at the operands, so it is the same for instructions of one operation
pub by_operation : {B : Type 0} (f : Inst → B)
    → ((d s t v k : ℕ) → find (f Ecall) (operations d s t v) k f ≡ find (f Ecall) (operations 0 0 0 0) k f)
    → (i j : Inst) → (parts_of i).operation ≡ (parts_of j).operation → f i ≡ f j
unfolding built
by_operation f blind i j e = at i ∙ ap (λ (k : ℕ). find (f Ecall) (operations 0 0 0 0) k f) e ∙ sym (at j)
  where
    at : (i : Inst) → f i ≡ find (f Ecall) (operations 0 0 0 0) (parts_of i).operation f
    at i =
        let p = parts_of i in
        ap f (sym (back i)) ∙ found_through f Ecall (operations p.rd p.rs1 p.rs2 p.imm) p.operation ∙ blind p.rd p.rs1 p.rs2 p.imm p.operation
