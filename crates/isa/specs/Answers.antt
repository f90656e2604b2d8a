-- Each answer in the paper's terms: the values, or the refusal's number.
use Rattle.std.specs.Prelude.{ℕ, Err, None, Ok, Option, Result, Some}
use Rattle.answers.specs.Answer.{Answer, given, refused}
use Rattle.answers.specs.declared.Refusal.{Refusal}
use Rattle.answers.specs.declared.Refusal.TheVariants.{NoInstruction, Field, NoShortForm}
use Rattle.isa.specs.declared.Reg.{Reg}
use Rattle.isa.specs.declared.Inst.{Inst}
use Rattle.isa.specs.declared.Unshortened.TheVariants as U
use Rattle.isa.specs.declared.Unshortened.{Unshortened}

-- a register by its number
abbrev pub of_named : Option Reg → Answer Reg
of_named (Some r) = given r
of_named None = refused Field

-- an instruction by its numbers
abbrev pub of_built : Option Inst → Answer Inst
of_built (Some i) = given i
of_built None = refused Field

-- decode and expand
abbrev pub of_decoded : Option Inst → Answer Inst
of_decoded (Some i) = given i
of_decoded None = refused NoInstruction

abbrev pub of_encoded : Option ℕ → Answer ℕ
of_encoded (Some w) = given w
of_encoded None = refused Field

-- why an instruction has no halfword
abbrev pub refusal_of : Unshortened → Refusal
refusal_of U.OutOfRange = Field
refusal_of U.NoShortForm = NoShortForm

abbrev pub of_shortened : Result ℕ Unshortened → Answer ℕ
of_shortened (Ok h) = given h
of_shortened (Err why) = refused (refusal_of why)
