-- A line of each operation, which stands for all of its lines: the table that names are written from and that lines are read by.
use Rattle.std.specs.Prelude.{cond, List, [], ◌∷◌, ◌++◌, ℕ, leb}
use Prim.Native.Char.{code}
use Rattle.ascii.specs.Ascii.{bytes}
use Rattle.isa.specs.declared.Inst.{Inst}
use Rattle.isa.specs.Operations.{parts}
use Rattle.isa.specs.Building.{built}
use Rattle.text.specs.Text.{text_of}

-- of the operation with this number, with 1, 2, 3 and 4 as rd, rs1, rs2 and immediate
abbrev pub sample : ℕ → Inst
sample operation = built (parts operation 1 2 3 4)

unfoldable pub sample_line : ℕ → List ℕ
sample_line operation = text_of (sample operation) ++ bytes "\n"

-- the name in front of a line: what is before a space or a newline
unfoldable pub name_of : List ℕ → List ℕ
name_of [] = []
name_of (b ∷ l) = cond (leb b (code " ")) [] (b ∷ name_of l)
