-- The text of an instruction: its mnemonic, a space, and its operands with commas and no further spaces.
use Rattle.std.specs.Prelude.{List, [], ◌∷◌, ◌++◌, ℕ}
use Prim.Native.Char.{code}
use Rattle.ascii.specs.Ascii.{bytes}
use Rattle.ascii.specs.Numbers.{decimal, signed_decimal}
use Rattle.isa.specs.declared.Reg.{Reg}
use Rattle.isa.specs.declared.Inst.{Inst}
use Rattle.isa.specs.declared.Inst.TheVariants.{Lui, Auipc, Jal, Jalr, Branch, Load, Store, Imm, Shift, Arith, Fence, Ecall, Ebreak, MulDiv}
use Rattle.isa.specs.Operations.{parts_of}
use Rattle.text.specs.declared.Operand.{Operand}
use Rattle.text.specs.declared.Operand.TheVariants.{Register, Unsigned, Signed}
use Rattle.text.specs.Names.{name_at}

abbrev pub space : List ℕ → List ℕ
space t = code " " ∷ t

abbrev pub comma : List ℕ → List ℕ
comma t = code "," ∷ t

abbrev pub parens : List ℕ → List ℕ
parens t = (code "(" ∷ t) ++ bytes ")"

-- x0 to x31
abbrev pub register_text : Reg → List ℕ
register_text r = code "x" ∷ decimal r.number

-- an operand by its kind
abbrev pub shown : Operand → List ℕ
shown (Register r) = register_text r
shown (Unsigned n) = decimal n
shown (Signed n) = signed_decimal n

unfoldable pub operands_of : Inst → List ℕ
-- lui x6,524288
operands_of (Lui rd field) = space (register_text rd) ++ comma (decimal field)
operands_of (Auipc rd field) = space (register_text rd) ++ comma (decimal field)
-- jal x1,-8
operands_of (Jal rd imm) = space (register_text rd) ++ comma (signed_decimal imm)
-- jalr x0,0(x1)
operands_of (Jalr rd rs1 imm) = space (register_text rd) ++ comma (signed_decimal imm) ++ parens (register_text rs1)
-- beq x5,x6,-4
operands_of (Branch o rs1 rs2 imm) = space (register_text rs1) ++ comma (register_text rs2) ++ comma (signed_decimal imm)
-- lw x2,-8(x1)
operands_of (Load o rd rs1 imm) = space (register_text rd) ++ comma (signed_decimal imm) ++ parens (register_text rs1)
-- sw x5,0(x6): the data first
operands_of (Store o rs1 rs2 imm) = space (register_text rs2) ++ comma (signed_decimal imm) ++ parens (register_text rs1)
-- addi x5,x0,7
operands_of (Imm o rd rs1 imm) = space (register_text rd) ++ comma (register_text rs1) ++ comma (signed_decimal imm)
-- slli x5,x5,31
operands_of (Shift o rd rs1 amount) = space (register_text rd) ++ comma (register_text rs1) ++ comma (decimal amount)
-- add x5,x6,x7
operands_of (Arith o rd rs1 rs2) = space (register_text rd) ++ comma (register_text rs1) ++ comma (register_text rs2)
-- fence x0,x0,255
operands_of (Fence rd rs1 field) = space (register_text rd) ++ comma (register_text rs1) ++ comma (decimal field)
operands_of Ecall = []
operands_of Ebreak = []
-- mul x5,x6,x7
operands_of (MulDiv o rd rs1 rs2) = space (register_text rd) ++ comma (register_text rs1) ++ comma (register_text rs2)

unfoldable pub text_of : Inst → List ℕ
text_of i = name_at (parts_of i).operation ++ operands_of i

-- a short instruction is its expansion's text with c: in front
unfoldable pub short_text_of : Inst → List ℕ
short_text_of i = bytes "c:" ++ text_of i
