-- The C interface, the assembler: what the call returns, and what it leaves in its places and in the room.
use Rattle.std.specs.Prelude.{ℕ, cond, List, eqb, Err, None, Ok, Option, Some}
use Rattle.answers.specs.Outcomes.{Outcome}
use Rattle.answers.specs.Refusals.{number_of}
use Rattle.answers.specs.Replies.{called_telling}
use Rattle.assembler.specs.Entry.{Assembled, assemble_entry, of_assembled}

-- the line and the byte of a refusal of a line; 13 is of none
abbrev pub fault_of : Assembled → Option (ℕ × ℕ)
fault_of (Ok n) = None
fault_of (Err f) = cond (eqb (number_of f.refusal) 13) None (Some (f.line, f.byte))

-- the length in its place, the line and the byte in theirs, and the room
abbrev pub assemble_call : List ℕ → List ℕ → ℕ → ℕ × ℕ → Outcome ℕ ((ℕ × (ℕ × ℕ)) × List ℕ)
assemble_call text room len fault = called_telling of_assembled fault_of len fault (assemble_entry text room)
