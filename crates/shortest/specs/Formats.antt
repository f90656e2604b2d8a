-- The formats of the 16-bit instructions, put together: the fields of the manual's tables 16.5 to 16.7, from the high bits to the low.
-- f is funct3, funct4 or funct6, q the two low bits. A three-bit register field holds the low bits of its register's number.
-- Only Trial.antt uses them, so nothing here has to be believed either.
use Rattle.std.specs.Prelude.{ℕ, ◌+◌, ◌*◌, ◌^◌}
use Rattle.word.specs.Bits.{bits, low}

-- CR: funct4 rd/rs1 rs2
abbrev pub form_cr : ℕ → ℕ → ℕ → ℕ → ℕ
form_cr f d t q = low 4 f * 2 ^ 12 + low 5 d * 2 ^ 7 + low 5 t * 2 ^ 2 + low 2 q

-- CI: funct3 imm[5] rd/rs1 imm[4:0]
abbrev pub form_ci : ℕ → ℕ → ℕ → ℕ → ℕ
form_ci f v d q = low 3 f * 2 ^ 13 + bits v 5 5 * 2 ^ 12 + low 5 d * 2 ^ 7 + low 5 v * 2 ^ 2 + low 2 q

-- C.ADDI16SP: funct3 imm[9] rd imm[4|6|8:7|5]
abbrev pub form16sp : ℕ → ℕ → ℕ → ℕ → ℕ
form16sp f v d q =
    low 3 f * 2 ^ 13 + bits v 9 9 * 2 ^ 12 + low 5 d * 2 ^ 7 + bits v 4 4 * 2 ^ 6 + bits v 6 6 * 2 ^ 5 + bits v 8 7 * 2 ^ 3 + bits v 5 5 * 2 ^ 2
    + low 2 q

-- C.LWSP: funct3 uimm[5] rd uimm[4:2|7:6]
abbrev pub form_lwsp : ℕ → ℕ → ℕ → ℕ → ℕ
form_lwsp f v d q = low 3 f * 2 ^ 13 + bits v 5 5 * 2 ^ 12 + low 5 d * 2 ^ 7 + bits v 4 2 * 2 ^ 4 + bits v 7 6 * 2 ^ 2 + low 2 q

-- CSS: funct3 uimm[5:2|7:6] rs2
abbrev pub form_css : ℕ → ℕ → ℕ → ℕ → ℕ
form_css f v t q = low 3 f * 2 ^ 13 + bits v 5 2 * 2 ^ 9 + bits v 7 6 * 2 ^ 7 + low 5 t * 2 ^ 2 + low 2 q

-- CIW: funct3 uimm[5:4|9:6|2|3] rd'
abbrev pub form_ciw : ℕ → ℕ → ℕ → ℕ → ℕ
form_ciw f v d q = low 3 f * 2 ^ 13 + bits v 5 4 * 2 ^ 11 + bits v 9 6 * 2 ^ 7 + bits v 2 2 * 2 ^ 6 + bits v 3 3 * 2 ^ 5 + low 3 d * 2 ^ 2 + low 2 q

-- CL and CS: funct3 uimm[5:3] rs1' uimm[2|6], then rd' or rs2'
abbrev pub form_cl : ℕ → ℕ → ℕ → ℕ → ℕ → ℕ
form_cl f v s d q =
    low 3 f * 2 ^ 13 + bits v 5 3 * 2 ^ 10 + low 3 s * 2 ^ 7 + bits v 2 2 * 2 ^ 6 + bits v 6 6 * 2 ^ 5 + low 3 d * 2 ^ 2 + low 2 q

-- CA: funct6 rd'/rs1' funct2 rs2'
abbrev pub form_ca : ℕ → ℕ → ℕ → ℕ → ℕ → ℕ
form_ca f d g t q = low 6 f * 2 ^ 10 + low 3 d * 2 ^ 7 + low 2 g * 2 ^ 5 + low 3 t * 2 ^ 2 + low 2 q

-- CB: funct3 imm[8|4:3] rs1' imm[7:6|2:1|5]
abbrev pub form_cb : ℕ → ℕ → ℕ → ℕ → ℕ
form_cb f v s q =
    low 3 f * 2 ^ 13 + bits v 8 8 * 2 ^ 12 + bits v 4 3 * 2 ^ 10 + low 3 s * 2 ^ 7 + bits v 7 6 * 2 ^ 5 + bits v 2 1 * 2 ^ 3 + bits v 5 5 * 2 ^ 2
    + low 2 q

-- C.SRLI, C.SRAI and C.ANDI: funct3 imm[5] funct2 rd' imm[4:0]
abbrev pub form_cbi : ℕ → ℕ → ℕ → ℕ → ℕ → ℕ
form_cbi f v g d q = low 3 f * 2 ^ 13 + bits v 5 5 * 2 ^ 12 + low 2 g * 2 ^ 10 + low 3 d * 2 ^ 7 + low 5 v * 2 ^ 2 + low 2 q

-- CJ: funct3 imm[11|4|9:8|10|6|7|3:1|5]
abbrev pub form_cj : ℕ → ℕ → ℕ → ℕ
form_cj f v q =
    low 3 f * 2 ^ 13 + bits v 11 11 * 2 ^ 12 + bits v 4 4 * 2 ^ 11 + bits v 9 8 * 2 ^ 9 + bits v 10 10 * 2 ^ 8 + bits v 6 6 * 2 ^ 7 + bits v 7 7 * 2 ^ 6
    + bits v 3 1 * 2 ^ 3
    + bits v 5 5 * 2 ^ 2
    + low 2 q
