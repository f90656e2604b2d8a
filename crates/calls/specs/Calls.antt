-- An instruction in the C interface is five numbers: the operation's place in the paper's order, rd, rs1, rs2 and the immediate.
use Rattle.std.specs.Prelude.{ℕ, List, [], ◌∷◌, get_or}
use Rattle.answers.specs.Answer.{Answer}
use Rattle.isa.specs.declared.Inst.{Inst}
use Rattle.isa.specs.declared.Parts.{Parts}
use Rattle.isa.specs.Operations.{parts, parts_of}
use Rattle.isa.specs.Building.{inst_of}
use Rattle.isa.specs.Answers.{of_built}

abbrev pub numbers_of : Inst → List ℕ
numbers_of i = (parts_of i).operation ∷ (parts_of i).rd ∷ (parts_of i).rs1 ∷ (parts_of i).rs2 ∷ (parts_of i).imm ∷ []

abbrev pub parts_in : List ℕ → Parts
parts_in n = parts (get_or n 0 0) (get_or n 1 0) (get_or n 2 0) (get_or n 3 0) (get_or n 4 0)

-- the instruction that has these numbers; 8 where none has
abbrev pub of_numbers : List ℕ → Answer Inst
of_numbers n = of_built (inst_of (parts_in n))
