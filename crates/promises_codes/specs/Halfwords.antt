-- The halfwords that are illegal, by the paper's list. Any other, the HINT points among them, is legal.
use Rattle.std.specs.Prelude.{ℕ, ◌%◌, Bool, ◌&&◌, ◌||◌, eqb}
use Rattle.word.specs.Bits.{bits, low}

-- the low two bits are q and the bits 15 to 13 are f: an entry of the manual's opcode map, table 16.4
abbrev pub map_entry : ℕ → ℕ → ℕ → Bool
map_entry q f h = eqb (low 2 h) q && eqb (bits h 15 13) f

-- low two bits that belong to the other width, 32
abbrev pub long_instruction : ℕ → Bool
long_instruction h = eqb (low 2 h) 0b11

-- 0x0000 and any C.ADDI4SPN with zero immediate, which is the bits 12 to 5
abbrev pub addi4spn_of_zero : ℕ → Bool
addi4spn_of_zero h = map_entry 0b00 0b000 h && eqb (bits h 12 5) 0

-- C.ADDI16SP or C.LUI with zero immediate, which is bit 12 and the bits 6 to 2
abbrev pub upper_of_zero : ℕ → Bool
upper_of_zero h = map_entry 0b01 0b011 h && eqb (bits h 12 12) 0 && eqb (bits h 6 2) 0

-- C.LWSP with rd 0, the bits 11 to 7
abbrev pub lwsp_to_x0 : ℕ → Bool
lwsp_to_x0 h = map_entry 0b10 0b010 h && eqb (bits h 11 7) 0

-- C.JR, where bit 12 and the bits 6 to 2 are 0, with rs1 0, the bits 11 to 7
abbrev pub jr_to_x0 : ℕ → Bool
jr_to_x0 h = map_entry 0b10 0b100 h && eqb (bits h 12 12) 0 && eqb (bits h 6 2) 0 && eqb (bits h 11 7) 0

-- C.SRLI and C.SRAI, where bit 11 is 0, and C.SLLI
abbrev pub shift : ℕ → Bool
shift h = (map_entry 0b01 0b100 h && eqb (bits h 11 11) 0) || map_entry 0b10 0b000 h

-- shift amounts with bit 5, which is bit 12 of the halfword, set
abbrev pub shift_of32 : ℕ → Bool
shift_of32 h = shift h && eqb (bits h 12 12) 1

-- the CA forms, C.SUB, C.XOR, C.OR and C.AND, where the bits 11 to 10 are 11, with bit 12 set
abbrev pub pair_with12 : ℕ → Bool
pair_with12 h = map_entry 0b01 0b100 h && eqb (bits h 11 10) 0b11 && eqb (bits h 12 12) 1

-- all floating forms: C.FLD, C.FLW, C.FSD and C.FSW, where the bits 15 to 13 are 001, 011, 101 and 111, and the same by sp
abbrev pub floating : ℕ → Bool
floating h = (eqb (low 2 h) 0b00 || eqb (low 2 h) 0b10) && eqb (bits h 15 13 % 2) 1

-- and reserved points: besides those above, the entry that the manual reserves
abbrev pub reserved : ℕ → Bool
reserved h = map_entry 0b00 0b100 h

unfoldable pub illegal_half : ℕ → Bool
illegal_half h =
    long_instruction h || addi4spn_of_zero h || upper_of_zero h || lwsp_to_x0 h || jr_to_x0 h || shift_of32 h || pair_with12 h || floating h || reserved h
