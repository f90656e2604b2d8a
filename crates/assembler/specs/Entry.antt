-- The assembler's entry: what it answers, and what it leaves in the room.
use Rattle.std.specs.Prelude.{ℕ, List, [], leb, length, Err, Ok, Result}
use Rattle.answers.specs.Answer.{Answer, given, refused}
use Rattle.answers.specs.Checks.{unless, Check, passed}
use Rattle.answers.specs.Outcomes.{Outcome, outcome, decided}
use Rattle.answers.specs.declared.Refusal.{Refusal}
use Rattle.answers.specs.declared.Refusal.TheVariants as R
use Rattle.ascii.specs.Rooms.{fronted}
use Rattle.assembly.specs.Assembly.{Assembly, output, fault, assembled}
use Rattle.assembler.specs.declared.LineFault.{LineFault}

-- the length of the output; or a refusal with its line and byte
abbrev pub Assembled : Type 0
Assembled = Result ℕ LineFault

abbrev pub refused_line : Refusal → ℕ → ℕ → Assembled
refused_line r line n = Err (record { refusal = r; line = line; byte = n })

-- 10, 11, 12: the first line at fault decides; then 13: room shorter than the whole output
abbrev pub output_checked : Assembly → List ℕ → Check
output_checked (output out) room = unless (leb (length out) (length room)) R.OutputRoom passed
output_checked (fault r line n) room = Err r

-- nothing where a line is at fault
abbrev pub bytes_of : Assembly → List ℕ
bytes_of (output out) = out
bytes_of (fault r line n) = []

-- a refusal with its line and byte; 13 is of no line, and has 0 and 0
abbrev pub placed_at : Assembly → Refusal → Assembled
placed_at (output out) r = refused_line r 0 0
placed_at (fault _ line n) r = refused_line r line n

-- the answer is the length; bytes of the room after the output stay. Refused, every byte stays
abbrev pub entry_of : Assembly → List ℕ → Outcome Assembled (List ℕ)
entry_of a room = decided (output_checked a room) (outcome (Ok (length (bytes_of a))) (fronted (bytes_of a) room)) (placed_at a) room

abbrev pub assemble_entry : List ℕ → List ℕ → Outcome Assembled (List ℕ)
assemble_entry text room = entry_of (assembled text) room

-- in the paper's terms
abbrev pub of_assembled : Assembled → Answer ℕ
of_assembled (Ok n) = given n
of_assembled (Err f) = refused f.refusal
