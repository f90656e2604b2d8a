-- The names of the 48 operations, in the paper's order.
use Rattle.std.specs.Prelude.{List, [], ◌∷◌, ℕ, get_or}
use Prim.Native.String.{String}
use Rattle.ascii.specs.Ascii.{bytes}

unfoldable pub names : List String
names =
    "lui" ∷ "auipc" ∷ "jal" ∷ "jalr"
    ∷ "beq" ∷ "bne" ∷ "blt" ∷ "bge" ∷ "bltu" ∷ "bgeu"
    ∷ "lb" ∷ "lh" ∷ "lw" ∷ "lbu" ∷ "lhu"
    ∷ "sb" ∷ "sh" ∷ "sw"
    ∷ "addi" ∷ "slti" ∷ "sltiu" ∷ "xori" ∷ "ori" ∷ "andi"
    ∷ "slli" ∷ "srli" ∷ "srai"
    ∷ "add" ∷ "sub" ∷ "sll" ∷ "slt" ∷ "sltu" ∷ "xor" ∷ "srl" ∷ "sra" ∷ "or" ∷ "and"
    ∷ "fence" ∷ "ecall" ∷ "ebreak"
    ∷ "mul" ∷ "mulh" ∷ "mulhsu" ∷ "mulhu" ∷ "div" ∷ "divu" ∷ "rem" ∷ "remu"
    ∷ []

-- the name of the operation with this number
unfoldable pub name_at : ℕ → List ℕ
name_at operation = bytes (get_or names operation "")
