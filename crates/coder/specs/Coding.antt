-- What the first line of a text gives, as the coder has it: the bits of a word or a halfword, its width and the place after the line, or a refusal and its byte.
use Rattle.std.specs.Prelude.{◌≡◌, ◌⊎◌, List, ℕ, ◌≤◌, drop, cond, Err, None, Ok, Option, Result, Some}
use Rattle.answers.specs.declared.Refusal.{Refusal}
use Rattle.answers.specs.declared.Refusal.TheVariants as R
use Rattle.answers.specs.declared.Refusal.TheVariants.{NumberNotAllowed, NoShortLine}
use Rattle.word.specs.Bits.{low}
use Rattle.isa.specs.declared.Inst.{Inst}
use Rattle.isa.specs.Operations.{parts}
use Rattle.isa.specs.Building.{built}
use Rattle.isa.specs.Encoding.{encoded}
use Rattle.isa.specs.Shortening.{shortened}
use Rattle.octets.specs.Bytes.{little_endian}
use Rattle.octets.specs.Widths.{width_bytes}
use Rattle.octets.specs.declared.Width.TheVariants.{Two, Four}
use Rattle.octets.specs.declared.Width.{Width}
use Rattle.assembly.specs.Assembly.{Meaning, gives, faulty}
use Rattle.reader.specs.declared.Fields.{Fields}
use Rattle.reader.specs.Line.{Line, first_line}
use Rattle.coder.specs.declared.Code.{Code}
use Rattle.coder.specs.declared.Fault.{Fault}
use Rattle.isa.specs.declared.Unshortened.TheVariants as U
use Rattle.isa.specs.declared.Unshortened.{Unshortened}

-- what a line gives
abbrev pub Coded : Type 0
Coded = Result Code Fault

abbrev pub coded : ℕ → Width → ℕ → Coded
coded bits width n = Ok (record { bits = bits; width = width; end = n })

abbrev pub fault_at : Refusal → ℕ → Fault
fault_at r p = record { refusal = r; byte = p }

abbrev pub refused_at : Refusal → ℕ → Coded
refused_at r p = Err (fault_at r p)

abbrev pub inst_read : ℕ → Fields → Inst
inst_read k x = built (parts k (low 5 x.rd) (low 5 x.rs1) (low 5 x.rs2) x.imm)

abbrev pub halved : Result ℕ Unshortened → ℕ → Coded
halved (Ok h) n = coded h Two n
halved (Err U.OutOfRange) n = refused_at NoShortLine 0
halved (Err U.NoShortForm) n = refused_at NoShortLine 0

-- an instruction whose numbers are all allowed is in range
abbrev pub worded : Option ℕ → ℕ → Coded
worded (Some w) n = coded w Four n
worded None n = refused_at NumberNotAllowed 0

-- the leftmost wrong number decides
abbrev pub unless_wrong_at : Option ℕ → Coded → Coded
unless_wrong_at (Some p) c = refused_at NumberNotAllowed p
unless_wrong_at None c = c

-- the code of a line that was read, or its refusal: 10, then 11, then 12
abbrev pub coded_line : Line → Coded
coded_line (Err p) = refused_at R.Unreadable p
coded_line (Ok l) =
    let i = inst_read l.operation l.fields in
    unless_wrong_at l.fields.wrong (cond l.short (halved (shortened i) l.end) (worded (encoded i) l.end))

-- of the first line of a text
abbrev pub code_line : List ℕ → Coded
code_line text = coded_line (first_line text)

-- in the definition's terms
abbrev pub meant : List ℕ → Coded → Meaning
meant text (Ok c) = gives (little_endian (width_bytes c.width) c.bits) (drop c.end text)
meant text (Err f) = faulty f.refusal f.byte

-- the width of a word or of a halfword
abbrev pub CodeSize : Width → Type 0
CodeSize w = (w ≡ Four) ⊎ (w ≡ Two)

-- the line ends within so many bytes
abbrev pub CodedWithin : ℕ → Coded → Type 0
CodedWithin most (Ok c) = CodeSize c.width × (c.end ≤ most)
CodedWithin most (Err f) = Unit {0}
