-- The two passes over the lines, from a line in the middle on: the first adds up the length, the second writes.
use Rattle.std.specs.Prelude.{Ok, Err, Some, None, Option, ◌≡◌, [], List, ℕ, ◌+◌, ◌≤◌, length}
use Rattle.assembly.specs.Assembly.{Assembly, output, fault, before, assembled}
use Rattle.octets.specs.Bytes.{little_endian}
use Rattle.octets.specs.Widths.{width_bytes}
use Rattle.coder.specs.Coding.{Coded}
use Rattle.assembler.specs.Entry.{Assembled, refused_line}

-- after so many bytes and lines
abbrev pub measured : ℕ → ℕ → Assembly → Assembled
measured n l (output out) = Ok (n + length out)
measured n l (fault r line byte) = refused_line r (l + line) byte

-- no line is at fault, and after n bytes the output fits
abbrev pub Fits : ℕ → ℕ → Assembly → Type 0
Fits size n (output out) = n + length out ≤ size
Fits size n (fault r line byte) = ⊥

-- one turn over the lines of a text, and the text after it: no line is left; the first one gives a code; or it is at fault
abbrev pub Turn : List ℕ → Option Coded → List ℕ → Type 0
Turn text None rest = text ≡ []
Turn text (Some (Ok c)) rest = (width_bytes c.width + length rest ≤ length text) × (assembled text ≡ before (little_endian (width_bytes c.width) c.bits) (assembled rest))
Turn text (Some (Err f)) rest = assembled text ≡ fault f.refusal 0 f.byte
