-- The halfword to try for an instruction. Nothing here has to be believed: proofs/Best.antt shows that where any halfword stands for an
-- instruction, the one to try does, and that none that does is smaller.
-- d, s, t and v are the instruction's rd, rs1, rs2 and immediate.
use Rattle.std.specs.Prelude.{ℕ, ◌+◌, ◌%◌, ◌^◌, cond, List, [], ◌∷◌, eqb, ltb}
use Rattle.word.specs.Tables.{find}
use Rattle.isa.specs.declared.Parts.{Parts}
use Rattle.shortest.specs.Formats.{form_cr, form_ci, form16sp, form_lwsp, form_css, form_ciw, form_cl, form_ca, form_cb, form_cbi, form_cj}

-- C.ADDI where rd is rs1 and the immediate has 6 bits, since it is the smaller one where both it and C.ADDI16SP stand for the instruction;
-- C.LI from x0; else C.ADDI4SPN
abbrev pub try_addi : ℕ → ℕ → ℕ → ℕ
try_addi d s v =
    cond (eqb d s) (cond (ltb ((v + 32) % 2 ^ 32) 64) (form_ci 0b000 v d 0b01) (form16sp 0b011 v 2 0b01))
    (cond (eqb s 0) (form_ci 0b010 v d 0b01) (form_ciw 0b000 v d 0b00))

-- by the operation's number
abbrev pub tries : List (ℕ × (ℕ → ℕ → ℕ → ℕ → ℕ))
tries =
    (0, λ d s t v. form_ci 0b011 v d 0b01)
    ∷ (2, λ d s t v. form_cj (cond (eqb d 1) 0b001 0b101) v 0b01)
    ∷ (3, λ d s t v. form_cr (cond (eqb d 0) 0b1000 0b1001) s 0 0b10)
    ∷ (4, λ d s t v. form_cb 0b110 v s 0b01)
    ∷ (5, λ d s t v. form_cb 0b111 v s 0b01)
    ∷ (12, λ d s t v. cond (eqb s 2) (form_lwsp 0b010 v d 0b10) (form_cl 0b010 v s d 0b00))
    ∷ (17, λ d s t v. cond (eqb s 2) (form_css 0b110 v t 0b10) (form_cl 0b110 v s t 0b00))
    ∷ (18, λ d s t v. try_addi d s v)
    ∷ (23, λ d s t v. form_cbi 0b100 v 0b10 d 0b01)
    ∷ (24, λ d s t v. form_ci 0b000 v d 0b10)
    ∷ (25, λ d s t v. form_cbi 0b100 v 0b00 d 0b01)
    ∷ (26, λ d s t v. form_cbi 0b100 v 0b01 d 0b01)
    ∷ (27, λ d s t v. form_cr (cond (eqb s 0) 0b1000 0b1001) d t 0b10)
    ∷ (28, λ d s t v. form_ca 0b100011 d 0b00 t 0b01)
    ∷ (32, λ d s t v. form_ca 0b100011 d 0b01 t 0b01)
    ∷ (35, λ d s t v. form_ca 0b100011 d 0b10 t 0b01)
    ∷ (36, λ d s t v. form_ca 0b100011 d 0b11 t 0b01)
    ∷ (39, λ d s t v. form_cr 0b1001 0 0 0b10)
    ∷ []

-- no short form has the operation: 0, which is illegal
abbrev pub try_none : ℕ → ℕ → ℕ → ℕ → ℕ
try_none d s t v = 0

unfoldable pub try_for : ℕ → ℕ → ℕ → ℕ → ℕ → ℕ
try_for o d s t v = find try_none tries o (λ f. f) d s t v

abbrev pub tried : Parts → ℕ
tried p = try_for p.operation p.rd p.rs1 p.rs2 p.imm
