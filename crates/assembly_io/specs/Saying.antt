-- What the assembler's program writes, and where to.
use Rattle.std.specs.Prelude.{ℕ, cond, List, ◌++◌, leb, length}
use Rattle.answers.specs.Outcomes.{Outcome, outcome}
use Rattle.answers.specs.Refusals.{number_of}
use Rattle.answers.specs.declared.Refusal.{Refusal}
use Rattle.ascii.specs.Ascii.{bytes}
use Rattle.ascii.specs.Numbers.{decimal}
use Rattle.ascii.specs.Rooms.{fronted}
use Rattle.assembly.specs.Assembly.{Assembly, output, fault, assembled}
use Rattle.assembly_io.specs.declared.Said.{Said}
use Rattle.assembly_io.specs.declared.Said.TheVariants.{Output, Error}

-- to standard output or to standard error, and nothing to the other
pub data Writes : Type 0 where
  to_output : List ℕ → Writes
  to_error : List ℕ → Writes

-- the refusal's number as a line
unfoldable pub complaint : Refusal → List ℕ
complaint r = decimal (number_of r) ++ bytes "\n"

abbrev pub said_of : Assembly → Writes
said_of (output out) = to_output out
said_of (fault r line n) = to_error (complaint r)

-- a text of over 65,536 bytes is not looked at
abbrev pub said : List ℕ → Writes
said text = cond (leb (length text) 65536) (said_of (assembled text)) (to_error (bytes "too long\n"))

-- in a room: the bytes at its front, then what was there, and how many they are
abbrev pub in_room : Writes → List ℕ → Outcome Said (List ℕ)
in_room (to_output out) room = outcome (Output (length out)) (fronted out room)
in_room (to_error line) room = outcome (Error (length line)) (fronted line room)

unfoldable pub saying : List ℕ → List ℕ → Outcome Said (List ℕ)
saying text room = in_room (said text) room
