-- The fields of a 32-bit instruction, by the bit numbers of the manual's figures (section 2.2), and the immediate of each format (section 2.3).
use Rattle.std.specs.Prelude.{ℕ, ◌+◌, ◌*◌, ◌^◌}
use Rattle.word.specs.Bits.{bits, low, sext}
use Rattle.isa.specs.declared.Reg.{Reg}
use Rattle.isa.specs.Registers.{reg}

abbrev pub opcode : ℕ → ℕ
opcode w = low 7 w

abbrev pub rd : ℕ → Reg
rd w = reg (bits w 11 7)

abbrev pub funct3 : ℕ → ℕ
funct3 w = bits w 14 12

abbrev pub rs1 : ℕ → Reg
rs1 w = reg (bits w 19 15)

abbrev pub rs2 : ℕ → Reg
rs2 w = reg (bits w 24 20)

abbrev pub shamt : ℕ → ℕ
shamt w = bits w 24 20

abbrev pub funct7 : ℕ → ℕ
funct7 w = bits w 31 25

abbrev pub funct12 : ℕ → ℕ
funct12 w = bits w 31 20

-- imm[11:0]
abbrev pub imm_i : ℕ → ℕ
imm_i w = sext 12 (bits w 31 20)

-- imm[11:5], imm[4:0]
abbrev pub imm_s : ℕ → ℕ
imm_s w = sext 12 (bits w 31 25 * 2 ^ 5 + bits w 11 7)

-- imm[12], imm[11], imm[10:5], imm[4:1]
abbrev pub imm_b : ℕ → ℕ
imm_b w = sext 13 (bits w 31 31 * 2 ^ 12 + bits w 7 7 * 2 ^ 11 + bits w 30 25 * 2 ^ 5 + bits w 11 8 * 2 ^ 1)

-- imm[31:12], as the 20-bit field that the text shows
abbrev pub field_u : ℕ → ℕ
field_u w = bits w 31 12

-- imm[20], imm[19:12], imm[11], imm[10:1]
abbrev pub imm_j : ℕ → ℕ
imm_j w = sext 21 (bits w 31 31 * 2 ^ 20 + bits w 19 12 * 2 ^ 12 + bits w 20 20 * 2 ^ 11 + bits w 30 21 * 2 ^ 1)
