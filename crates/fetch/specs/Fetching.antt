-- The instruction at pc and its length in bytes, or why there is none, in the paper's order: an illegal instruction, with pc as its address, or a halfword that could not be fetched, with its own.
use Rattle.std.specs.Prelude.{ℕ, ◌+◌, ◌%◌, cond, List, length, eqb, leb, None, Option, Some, Result, Ok, Err}
use Rattle.alu.specs.Arithmetic.{sum}
use Rattle.answers.specs.Stops.{cause}
use Rattle.answers.specs.declared.Cause.{Cause}
use Rattle.answers.specs.declared.Stop.TheVariants.{IllegalInstruction, FetchOutside}
use Rattle.isa.specs.Decoding.{decoded}
use Rattle.isa.specs.Rvc.{expanded}
use Rattle.octets.specs.Bytes.{load}
use Rattle.isa.specs.declared.Inst.{Inst}
use Rattle.std.specs.Prelude.{Err, Ok}

-- an instruction and its length, or why there is none
abbrev pub Fetched : Type 0
Fetched = Result (Inst × ℕ) Cause

abbrev pub illegal_at : ℕ → Fetched
illegal_at pc = Err (cause IllegalInstruction pc)

-- the halfword at a is not within memory
abbrev pub outside_at : ℕ → Fetched
outside_at a = Err (cause FetchOutside a)

abbrev pub legal : Option Inst → ℕ → ℕ → Fetched
legal (Some i) pc len = Ok (i, len)
legal None pc len = illegal_at pc

-- low two bits 11: four bytes, the second halfword within memory too; else two. h is the first halfword.
unfoldable pub fetched_with : ℕ → ℕ → List ℕ → Fetched
fetched_with h pc m =
    cond (eqb (h % 4) 3)
    (cond (leb (pc + 4) (length m)) (legal (decoded (load 4 pc m)) pc 4) (outside_at (sum pc 2)))
    (legal (expanded h) pc 2)

-- first halfword not within memory; low five bits 11111, illegal; then by the low two bits
unfoldable pub fetched : ℕ → List ℕ → Fetched
fetched pc m =
    cond (leb (pc + 2) (length m))
    (cond (eqb (load 2 pc m % 32) 31) (illegal_at pc) (fetched_with (load 2 pc m) pc m))
    (outside_at pc)
