-- The bench cards, as rows of one table under one claim.
use Rattle.std.specs.Prelude.{◌≡◌, List, [], ◌∷◌, ◌++◌, ℕ, ◌-◌, ◌^◌, replicate, Result, Ok, Err}
use Rattle.answers.specs.Answer.{Answer, given, refused}
use Rattle.answers.specs.declared.Refusal.{Refusal}
use Rattle.answers.specs.declared.Refusal.TheVariants.{NoInstruction}
use Rattle.answers.specs.Outcomes.{Outcome}
use Rattle.isa.specs.declared.Reg.{Reg}
use Rattle.isa.specs.declared.Inst.{Inst}
use Rattle.isa.specs.declared.Inst.TheVariants.{Jalr, Branch, Imm, Ebreak}
use Rattle.isa.specs.declared.Cond.TheVariants.{Beq}
use Rattle.isa.specs.declared.ImmOp.TheVariants.{Addi}
use Rattle.isa.specs.declared.LoadOp.{LoadOp}
use Rattle.isa.specs.declared.LoadOp.TheVariants.{Lb}
use Rattle.isa.specs.declared.MulDivOp.{MulDivOp}
use Rattle.isa.specs.declared.MulDivOp.TheVariants.{Mulh, Mulhsu}
use Rattle.isa.specs.Registers.{reg, x0, ra, sp}
use Rattle.alu.specs.Arithmetic.{mul_div_of}
use Rattle.octets.specs.Bytes.{little_endian}
use Rattle.fuses.specs.Row.{value_at, mark_at}
use Rattle.boards.specs.Boards.{Board, board}
use Rattle.access.specs.Accesses.{loaded}
use Rattle.access.specs.declared.Effect.TheVariants.{Next}
use Rattle.state.specs.States.{state, fresh}
use Rattle.engine.specs.Steps.{World, world, stepped}
use Rattle.machine.specs.Entries.{run_entry}
use Rattle.machine.specs.declared.Ran.{Ran}
use Rattle.promises_codes.specs.Instructions.{decodes, expands, shortens}

-- how a run ends: the number retired, the stop number with its address, pc, and the mark and value of word 0 of the row
pub record End : Type 0 where
  pub retired : ℕ
  pub stop : ℕ
  pub address : ℕ
  pub pc : ℕ
  pub mark : ℕ
  pub value : ℕ

abbrev pub end : ℕ → ℕ → ℕ → ℕ → ℕ → ℕ → Answer End
end retired stop address pc mark value = given (record { retired = retired; stop = stop; address = address; pc = pc; mark = mark; value = value })

abbrev pub end_at : Ran → List ℕ → End
end_at r f =
    record { retired = r.retired; stop = r.state.stop; address = r.state.address; pc = r.state.pc; mark = mark_at 0 f; value = value_at 0 f }

abbrev pub ended : Result Ran Refusal → List ℕ → Answer End
ended (Ok r) f = given (end_at r f)
ended (Err r) f = refused r

abbrev pub end_of : Outcome (Result Ran Refusal) Board → Answer End
end_of o = ended o.answer o.lent.row

-- a recipe's image started on a row
abbrev pub start : List ℕ → List ℕ → World
start image f = world fresh (board image f)

-- what a card says
pub data Fact : Type 0 where
  -- 32 bits and what they are
  long : ℕ → Answer Inst → Fact
  -- 16 bits and what they stand for
  short : ℕ → Answer Inst → Fact
  -- an instruction and its shortening
  shorter : Inst → Answer ℕ → Fact
  -- a multiplication or division of two values and its result
  computed : MulDivOp → ℕ → ℕ → ℕ → Fact
  -- a load at an address of a memory and what rd gets
  loads : LoadOp → ℕ → List ℕ → ℕ → Fact
  -- a world and the one after its next step
  steps : World → World → Fact
  -- an image started on a row with a budget and how the run ends
  runs : List ℕ → List ℕ → ℕ → Answer End → Fact

abbrev pub Holds : Fact → Type 0
Holds (long w a) = decodes w ≡ a
Holds (short h a) = expands h ≡ a
Holds (shorter i a) = shortens i ≡ a
Holds (computed o a b v) = mul_div_of o a b ≡ v
Holds (loads o a m v) = (own : ℕ) (rd : Reg) (next : ℕ) (f : List ℕ) → loaded own o rd a next (board m f) ≡ Next rd v next
Holds (steps w v) = stepped w ≡ v
Holds (runs image f budget e) = end_of (run_entry budget (start image f)) ≡ e

-- addi rd,rs1,imm
abbrev addi : ℕ → ℕ → ℕ → Answer Inst
addi d s imm = given (Imm Addi (reg d) (reg s) imm)

abbrev no_instruction : Answer Inst
no_instruction = refused NoInstruction

abbrev pub blank : List ℕ
blank = replicate 512 0

-- the word of jalr x1,3(x1) at 0x20
abbrev jalr_at : List ℕ
jalr_at = replicate 32 0 ++ little_endian 4 0x003080E7

-- c:addi x5,x0,7; lui x6,524288; sw x5,0(x6); ecall
abbrev pub image : List ℕ
image = 0x9D ∷ 0x42 ∷ 0x37 ∷ 0x03 ∷ 0x00 ∷ 0x80 ∷ 0x23 ∷ 0x20 ∷ 0x53 ∷ 0x00 ∷ 0x73 ∷ 0x00 ∷ 0x00 ∷ 0x00 ∷ []

-- the row that its first run leaves
abbrev pub spent : List ℕ
spent = (run_entry 100 (start image blank)).lent.row

-- a card: its number, and what it says
abbrev pub cards : List (ℕ × List Fact)
cards =
    (1, long 0x00A00513 (addi 10 0 10) ∷ [])
    ∷ (2, long 0xFE000EE3 (given (Branch Beq x0 x0 (2 ^ 32 - 4))) ∷ [])
    ∷ (3, short 0x429D (addi 5 0 7) ∷ [])
    ∷ (4, short 0x8082 (given (Jalr x0 ra 0)) ∷ short 0x8002 no_instruction ∷ [])
    ∷ (5, short 0x9002 (given Ebreak) ∷ [])
    ∷ (6, short 0x0000 no_instruction ∷ short 0xFFFF no_instruction ∷ short 0x0001 (addi 0 0 0) ∷ [])
    ∷ (7, short 0x0141 (addi 2 2 16) ∷ short 0x6141 (addi 2 2 16) ∷ shorter (Imm Addi sp sp 16) (given 0x0141) ∷ short 0x6105 (addi 2 2 32) ∷ [])
    ∷ (8, computed Mulhsu 0xFFFFFFFF 0xFFFFFFFF 0xFFFFFFFF ∷ computed Mulh 0x80000000 0x80000000 0x40000000 ∷ [])
    ∷ (9, loads Lb 0 (0x8B ∷ []) 0xFFFFFF8B ∷ [])
    ∷ (
      10,
      long 0x003080E7 (given (Jalr ra ra 3))
          ∷ steps (world (state 0x20 (0x10 ∷ replicate 30 0) 0 0 0) (board jalr_at blank)) (world (state 0x12 (0x24 ∷ replicate 30 0) 1 0 0) (board jalr_at blank))
          ∷ [],
    )
    ∷ (11, runs image blank 100 (end 3 1 0 10 1 7) ∷ runs image blank 3 (end 3 0 0 10 1 7) ∷ [])
    ∷ (12, runs image spent 100 (end 2 9 0x80000000 6 1 7) ∷ [])
    ∷ []

-- the claim: every fact of every card holds
abbrev pub All : List Fact → Type 0
All [] = Unit {0}
All (f ∷ fs) = Holds f × All fs

abbrev pub Claim : List (ℕ × List Fact) → Type 0
Claim [] = Unit {0}
Claim (c ∷ cs) = All c.1 × Claim cs

-- of all twelve
abbrev pub CardsHold : Type 0
CardsHold = Claim cards
