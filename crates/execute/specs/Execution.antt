-- What each instruction does (the manual's chapters 2 and 7), in two halves: what it asks for, by pc, the next address and the registers alone, and what comes of that in main memory and the fuse row.
use Rattle.std.specs.Prelude.{ℕ, ◌-◌, ◌*◌, ◌%◌, ◌^◌, cond, List}
use Rattle.answers.specs.Outcomes.{outcome}
use Rattle.answers.specs.Stops.{nowhere}
use Rattle.answers.specs.declared.Stop.TheVariants as S
use Rattle.isa.specs.declared.Inst.{Inst}
use Rattle.isa.specs.declared.Inst.TheVariants.{Lui, Auipc, Jal, Jalr, Branch, Load, Store, Imm, Shift, Arith, Fence, Ecall, Ebreak, MulDiv}
use Rattle.isa.specs.Registers.{x0}
use Rattle.state.specs.States.{register_of}
use Rattle.alu.specs.Arithmetic.{sum, arith_of, imm_of, shift_of, mul_div_of, takes}
use Rattle.boards.specs.Boards.{Board}
use Rattle.access.specs.Accesses.{Done, loaded, stored}
use Rattle.access.specs.declared.Effect.TheVariants.{Next, Halt}
use Rattle.execute.specs.declared.Act.{Act}
use Rattle.execute.specs.declared.Act.TheVariants.{Sets, Loads, Stores, Ends}

-- the 20-bit field of lui and auipc as bits 31 to 12
abbrev pub upper_field : ℕ → ℕ
upper_field field = field * 2 ^ 12 % 2 ^ 32

-- bit 0 cleared
abbrev pub evened : ℕ → ℕ
evened a = a - a % 2

-- what an instruction at pc asks for, over the registers x; next is pc plus the instruction's own length
unfoldable pub act_of : Inst → ℕ → ℕ → List ℕ → Act
act_of (Lui rd field) next pc x = Sets rd (upper_field field) next
act_of (Auipc rd field) next pc x = Sets rd (sum pc (upper_field field)) next
-- the link is next
act_of (Jal rd imm) next pc x = Sets rd next (sum pc imm)
act_of (Jalr rd rs1 imm) next pc x = Sets rd next (evened (sum (register_of x rs1) imm))
-- a branch writes no register: x0 drops the 0
act_of (Branch o rs1 rs2 imm) next pc x = Sets x0 0 (cond (takes o (register_of x rs1) (register_of x rs2)) (sum pc imm) next)
act_of (Load o rd rs1 imm) next pc x = Loads o rd (sum (register_of x rs1) imm) next
act_of (Store o rs1 rs2 imm) next pc x = Stores o (register_of x rs2) (sum (register_of x rs1) imm) next
act_of (Imm o rd rs1 imm) next pc x = Sets rd (imm_of o (register_of x rs1) imm) next
act_of (Shift o rd rs1 shamt) next pc x = Sets rd (shift_of o (register_of x rs1) shamt) next
act_of (Arith o rd rs1 rs2) next pc x = Sets rd (arith_of o (register_of x rs1) (register_of x rs2)) next
-- fence does nothing but retire
act_of (Fence rd rs1 field) next pc x = Sets x0 0 next
act_of Ecall next pc x = Ends (nowhere S.Ecall)
act_of Ebreak next pc x = Ends (nowhere S.Ebreak)
act_of (MulDiv o rd rs1 rs2) next pc x = Sets rd (mul_div_of o (register_of x rs1) (register_of x rs2)) next

-- what comes of it, on the board b of main memory and fuse row, in a run whose own words are those of the mask `own`
unfoldable pub performed : ℕ → Act → Board → Done
performed own (Sets rd v next) b = outcome (Next rd v next) b
performed own (Loads o rd a next) b = outcome (loaded own o rd a next b) b
performed own (Stores o v a next) b = stored own o v a next b
performed own (Ends why) b = outcome (Halt why) b
