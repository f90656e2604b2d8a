-- Demand 2: a 16-bit instruction acts as the 32-bit one it stands for, but for its length.
-- Each statement is proved in proofs/Lengths.antt.
use Rattle.std.specs.Prelude.{◌≡◌, Bool, true, false, cond, not, List, ℕ, ◌+◌, ◌≤◌, length}
use Rattle.answers.specs.Answer.{given}
use Rattle.answers.specs.Outcomes.{outcome}
use Rattle.isa.specs.declared.Inst.{Inst}
use Rattle.isa.specs.declared.Inst.TheVariants.{Lui, Auipc, Jal, Jalr, Branch, Load, Store, Imm, Shift, Arith, Fence, Ecall, Ebreak, MulDiv}
use Rattle.octets.specs.Bytes.{load}
use Rattle.alu.specs.Arithmetic.{sum, takes}
use Rattle.state.specs.States.{register_of}
use Rattle.boards.specs.Boards.{Board}
use Rattle.access.specs.declared.Effect.{Effect}
use Rattle.access.specs.declared.Effect.TheVariants.{Next, Halt}
use Rattle.access.specs.Accesses.{Done}
use Rattle.execute.specs.Execution.{performed}
use Rattle.engine.specs.Steps.{act_fetched, act_at}
use Rattle.promises_codes.specs.Instructions.{encodes, expands}
use Rattle.std.specs.Prelude.{Ok}

-- ---- where its length shows

-- in the value, which is then the address after the instruction, and in the next pc, which is then that address
pub record Shows : Type 0 where
  pub value : Bool
  pub next : Bool

abbrev shown : Bool → Bool → Shows
shown v n = record { value = v; next = n }

-- in the value of jal and jalr; in the next pc of all that neither jump nor take a branch, with the registers x
abbrev pub shows : Inst → List ℕ → Shows
shows (Lui rd field) x = shown false true
shows (Auipc rd field) x = shown false true
shows (Jal rd imm) x = shown true false
shows (Jalr rd rs1 imm) x = shown true false
shows (Branch o rs1 rs2 imm) x = shown false (not (takes o (register_of x rs1) (register_of x rs2)))
shows (Load o rd rs1 imm) x = shown false true
shows (Store o rs1 rs2 imm) x = shown false true
shows (Imm o rd rs1 imm) x = shown false true
shows (Shift o rd rs1 shamt) x = shown false true
shows (Arith o rd rs1 rs2) x = shown false true
shows (Fence rd rs1 field) x = shown false true
shows Ecall x = shown false true
shows Ebreak x = shown false true
shows (MulDiv o rd rs1 rs2) x = shown false true

-- the effect of an instruction that ends at `after`, told from its effect in another length: the same stop, rd, value and next pc, but where the length shows
abbrev pub ending_at : ℕ → Shows → Effect → Effect
ending_at after h (Next rd v pc) = Next rd (cond h.value after v) (cond h.next after pc)
ending_at after h (Halt why) = Halt why

-- .. and what it comes to: the same memory and row
abbrev pub but_for_length : Inst → List ℕ → ℕ → Done → Done
but_for_length i x after d = outcome (ending_at after (shows i x) d.answer) d.lent

-- ---- the promises

-- what the instruction i of len bytes at pc does, with the registers x on the board b, in a run with these own words
abbrev pub effect_of : ℕ → Inst → ℕ → ℕ → List ℕ → Board → Done
effect_of own i len pc x b = performed own (act_fetched (Ok (i, len)) pc x) b

-- one instruction at one pc, with the same registers, memory and row, in any two lengths
abbrev pub LengthOnly : Type 0
LengthOnly = (own : ℕ) (i : Inst) (m n pc : ℕ) (x : List ℕ) (b : Board) → effect_of own i m pc x b ≡ but_for_length i x (sum pc m) (effect_of own i n pc x b)

-- where m2 has at pc a halfword that stands for i, and m4 has there the word of i: on any memory and row, what the bytes of m2 ask for does what i does in 2 bytes, what those of m4 ask for does what i does in 4, and the two are the same but for the length
abbrev pub ShortActsAsLong : Type 0
ShortActsAsLong =
    (own : ℕ) (i : Inst) (pc : ℕ) (x m2 m4 : List ℕ) (b : Board)
    → pc + 2 ≤ length m2 → expands (load 2 pc m2) ≡ given i
    → pc + 4 ≤ length m4 → encodes i ≡ given (load 4 pc m4)
    → (performed own (act_at pc x m2) b ≡ effect_of own i 2 pc x b)
    × (performed own (act_at pc x m4) b ≡ effect_of own i 4 pc x b)
    × (performed own (act_at pc x m2) b ≡ but_for_length i x (sum pc 2) (performed own (act_at pc x m4) b))
