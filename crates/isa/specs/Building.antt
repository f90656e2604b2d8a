-- An instruction from five numbers: the operation's, rd, rs1, rs2 and the immediate.
use Rattle.std.specs.Prelude.{ℕ, Bool, cond, ◌&&◌, List, [], ◌∷◌, ◌++◌, ltb, None, Option, Some}
use Rattle.word.specs.Tables.{find}
use Rattle.isa.specs.declared.Inst.{Inst}
use Rattle.isa.specs.declared.Inst.TheVariants.{Lui, Auipc, Jal, Jalr, Branch, Load, Store, Imm, Shift, Arith, Fence, Ecall, Ebreak, MulDiv}
use Rattle.isa.specs.declared.Cond.TheVariants.{Beq, Bne, Blt, Bge, Bltu, Bgeu}
use Rattle.isa.specs.declared.LoadOp.TheVariants.{Lb, Lh, Lw, Lbu, Lhu}
use Rattle.isa.specs.declared.StoreOp.TheVariants.{Sb, Sh, Sw}
use Rattle.isa.specs.declared.ImmOp.TheVariants.{Addi, Slti, Sltiu, Xori, Ori, Andi}
use Rattle.isa.specs.declared.ShiftOp.TheVariants.{Slli, Srli, Srai}
use Rattle.isa.specs.declared.ArithOp.TheVariants.{Add, Sub, Sll, Slt, Sltu, Xor, Srl, Sra, Or, And}
use Rattle.isa.specs.declared.MulDivOp.TheVariants.{Mul, Mulh, Mulhsu, Mulhu, Div, Divu, Rem, Remu}
use Rattle.isa.specs.declared.Parts.{Parts}
use Rattle.isa.specs.Registers.{reg}
use Rattle.isa.specs.Operations.{parts_of, same_parts}

-- the operations with their numbers, as in Operations.antt (`BuildOfParts` keeps the two in step), at the operands rd, rs1, rs2 and immediate.
-- First those with an immediate, as the code has them
abbrev pub with_immediate : ℕ → ℕ → ℕ → ℕ → List (ℕ × Inst)
with_immediate d s t v =
    (0, Lui (reg d) v)
    ∷ (1, Auipc (reg d) v)
    ∷ (2, Jal (reg d) v)
    ∷ (3, Jalr (reg d) (reg s) v)
    ∷ (4, Branch Beq (reg s) (reg t) v)
    ∷ (5, Branch Bne (reg s) (reg t) v)
    ∷ (6, Branch Blt (reg s) (reg t) v)
    ∷ (7, Branch Bge (reg s) (reg t) v)
    ∷ (8, Branch Bltu (reg s) (reg t) v)
    ∷ (9, Branch Bgeu (reg s) (reg t) v)
    ∷ (10, Load Lb (reg d) (reg s) v)
    ∷ (11, Load Lh (reg d) (reg s) v)
    ∷ (12, Load Lw (reg d) (reg s) v)
    ∷ (13, Load Lbu (reg d) (reg s) v)
    ∷ (14, Load Lhu (reg d) (reg s) v)
    ∷ (15, Store Sb (reg s) (reg t) v)
    ∷ (16, Store Sh (reg s) (reg t) v)
    ∷ (17, Store Sw (reg s) (reg t) v)
    ∷ (18, Imm Addi (reg d) (reg s) v)
    ∷ (19, Imm Slti (reg d) (reg s) v)
    ∷ (20, Imm Sltiu (reg d) (reg s) v)
    ∷ (21, Imm Xori (reg d) (reg s) v)
    ∷ (22, Imm Ori (reg d) (reg s) v)
    ∷ (23, Imm Andi (reg d) (reg s) v)
    ∷ (24, Shift Slli (reg d) (reg s) v)
    ∷ (25, Shift Srli (reg d) (reg s) v)
    ∷ (26, Shift Srai (reg d) (reg s) v)
    ∷ (37, Fence (reg d) (reg s) v)
    ∷ []

-- .. and those without
abbrev pub without : ℕ → ℕ → ℕ → List (ℕ × Inst)
without d s t =
    (27, Arith Add (reg d) (reg s) (reg t))
    ∷ (28, Arith Sub (reg d) (reg s) (reg t))
    ∷ (29, Arith Sll (reg d) (reg s) (reg t))
    ∷ (30, Arith Slt (reg d) (reg s) (reg t))
    ∷ (31, Arith Sltu (reg d) (reg s) (reg t))
    ∷ (32, Arith Xor (reg d) (reg s) (reg t))
    ∷ (33, Arith Srl (reg d) (reg s) (reg t))
    ∷ (34, Arith Sra (reg d) (reg s) (reg t))
    ∷ (35, Arith Or (reg d) (reg s) (reg t))
    ∷ (36, Arith And (reg d) (reg s) (reg t))
    ∷ (38, Ecall)
    ∷ (39, Ebreak)
    ∷ (40, MulDiv Mul (reg d) (reg s) (reg t))
    ∷ (41, MulDiv Mulh (reg d) (reg s) (reg t))
    ∷ (42, MulDiv Mulhsu (reg d) (reg s) (reg t))
    ∷ (43, MulDiv Mulhu (reg d) (reg s) (reg t))
    ∷ (44, MulDiv Div (reg d) (reg s) (reg t))
    ∷ (45, MulDiv Divu (reg d) (reg s) (reg t))
    ∷ (46, MulDiv Rem (reg d) (reg s) (reg t))
    ∷ (47, MulDiv Remu (reg d) (reg s) (reg t))
    ∷ []

-- all 48
abbrev pub operations : ℕ → ℕ → ℕ → ℕ → List (ℕ × Inst)
operations d s t v = with_immediate d s t v ++ without d s t

-- the row of the table with the operation's number. Of no operation's number any would do, since `inst_of` compares the numbers
unfoldable pub built : Parts → Inst
built p = find Ecall (operations p.rd p.rs1 p.rs2 p.imm) p.operation (λ i. i)

abbrev pub registers_ok : Parts → Bool
registers_ok p = ltb p.rd 32 && (ltb p.rs1 32 && ltb p.rs2 32)

-- the instruction that has these numbers: none where a register's is above 31, the operation's above 47, or an operand that the operation does not have is not 0
abbrev pub inst_of : Parts → Option Inst
inst_of p = cond (registers_ok p && same_parts (parts_of (built p)) p) (Some (built p)) None
