-- A word that has the digits of an instruction in range means that instruction: its operands are read off the digits, one law for each format,
-- and its operation is the one that the tables give for its codes, which antt computes.
use mathlib.Core.Path.{◌≡◌, refl, sym, ap, ◌∙◌}
use mathlib.Core.Bool.{Bool, ◌&&◌}
use Prim.Native.Nat.{ℕ, ◌^◌, ◌<◌}
use lib.Dec.{T, ltb}
use Rattle.word.specs.Bits.{bits, low}
use Rattle.word.specs.Tables.{find}
use Rattle.word.proofs.Bools.{and_left, and_right}
use Rattle.isa.specs.Registers.{reg}
use Rattle.isa.specs.Fields.{opcode, rd, funct3, rs1, rs2, shamt, funct7, funct12, imm_i, imm_s, imm_b, field_u, imm_j}
use Rattle.isa.specs.Decoding.{decoded, opcodes, decode_jalr, decode_branch, decode_load, decode_store, decode_immediate, decode_register, decode_fence}
use Rattle.isa.specs.Encoding.{in_range, reg_ok, signed_ok, even_ok, cond_code, load_code, store_code, imm_code, shift_code, shift_code7, arith_code, arith_code7, mul_div_code}
use Rattle.isa.specs.declared.Reg.{Reg}
use Rattle.isa.specs.declared.Inst.{Inst}
use Rattle.isa.specs.declared.Inst.TheVariants.{Lui, Auipc, Jal, Jalr, Branch, Load, Store, Imm, Shift, Arith, Fence, Ecall, Ebreak, MulDiv}
use Rattle.isa.specs.declared.Cond.{Cond}
use Rattle.isa.specs.declared.Cond.TheVariants.{Beq, Bne, Blt, Bge, Bltu, Bgeu}
use Rattle.isa.specs.declared.LoadOp.{LoadOp}
use Rattle.isa.specs.declared.LoadOp.TheVariants.{Lb, Lh, Lw, Lbu, Lhu}
use Rattle.isa.specs.declared.StoreOp.{StoreOp}
use Rattle.isa.specs.declared.StoreOp.TheVariants.{Sb, Sh, Sw}
use Rattle.isa.specs.declared.ImmOp.{ImmOp}
use Rattle.isa.specs.declared.ImmOp.TheVariants.{Addi, Slti, Sltiu, Xori, Ori, Andi}
use Rattle.isa.specs.declared.ShiftOp.{ShiftOp}
use Rattle.isa.specs.declared.ShiftOp.TheVariants.{Slli, Srli, Srai}
use Rattle.isa.specs.declared.ArithOp.{ArithOp}
use Rattle.isa.specs.declared.ArithOp.TheVariants.{Add, Sub, Sll, Slt, Sltu, Xor, Srl, Sra, Or, And}
use Rattle.isa.specs.declared.MulDivOp.{MulDivOp}
use Rattle.isa.specs.declared.MulDivOp.TheVariants.{Mul, Mulh, Mulhsu, Mulhu, Div, Divu, Rem, Remu}
use Rattle.roundtrip.proofs.Digits.{Has, whole}
use Rattle.roundtrip.proofs.Operands.{field_is, imm_is, even_is}
use Rattle.roundtrip.proofs.Formats.{format_r, format_i, format_u, digits_i, digits_s, digits_b, digits_j, digits_of}
use Rattle.std.specs.Prelude.{None, Option, Some}

-- ---- the operations, by their codes

branch_is : (o : Cond) (s t : Reg) (imm : ℕ) → decode_branch (low 3 (cond_code o)) s t imm ≡ Some (Branch o s t imm)
branch_is Beq s t imm = refl
branch_is Bne s t imm = refl
branch_is Blt s t imm = refl
branch_is Bge s t imm = refl
branch_is Bltu s t imm = refl
branch_is Bgeu s t imm = refl

load_is : (o : LoadOp) (d s : Reg) (imm : ℕ) → decode_load (low 3 (load_code o)) d s imm ≡ Some (Load o d s imm)
load_is Lb d s imm = refl
load_is Lh d s imm = refl
load_is Lw d s imm = refl
load_is Lbu d s imm = refl
load_is Lhu d s imm = refl

store_is : (o : StoreOp) (s t : Reg) (imm : ℕ) → decode_store (low 3 (store_code o)) s t imm ≡ Some (Store o s t imm)
store_is Sb s t imm = refl
store_is Sh s t imm = refl
store_is Sw s t imm = refl

immediate_is : (o : ImmOp) (f7 : ℕ) (d s : Reg) (amount imm : ℕ) → decode_immediate (low 3 (imm_code o)) f7 d s amount imm ≡ Some (Imm o d s imm)
immediate_is Addi f7 d s amount imm = refl
immediate_is Slti f7 d s amount imm = refl
immediate_is Sltiu f7 d s amount imm = refl
immediate_is Xori f7 d s amount imm = refl
immediate_is Ori f7 d s amount imm = refl
immediate_is Andi f7 d s amount imm = refl

shift_is : (o : ShiftOp) (d s : Reg) (amount imm : ℕ)
    → decode_immediate (low 3 (shift_code o)) (low 7 (shift_code7 o)) d s amount imm ≡ Some (Shift o d s amount)
shift_is Slli d s amount imm = refl
shift_is Srli d s amount imm = refl
shift_is Srai d s amount imm = refl

arith_is : (o : ArithOp) (d s t : Reg) → decode_register (low 7 (arith_code7 o)) (low 3 (arith_code o)) d s t ≡ Some (Arith o d s t)
arith_is Add d s t = refl
arith_is Sub d s t = refl
arith_is Sll d s t = refl
arith_is Slt d s t = refl
arith_is Sltu d s t = refl
arith_is Xor d s t = refl
arith_is Srl d s t = refl
arith_is Sra d s t = refl
arith_is Or d s t = refl
arith_is And d s t = refl

mul_div_is : (o : MulDivOp) (d s t : Reg) → decode_register 0b0000001 (low 3 (mul_div_code o)) d s t ≡ Some (MulDiv o d s t)
mul_div_is Mul d s t = refl
mul_div_is Mulh d s t = refl
mul_div_is Mulhsu d s t = refl
mul_div_is Mulhu d s t = refl
mul_div_is Div d s t = refl
mul_div_is Divu d s t = refl
mul_div_is Rem d s t = refl
mul_div_is Remu d s t = refl

-- ---- the immediates, from where their bits stand in the word

i_imm : (w imm : ℕ) → bits w 31 20 ≡ low 12 imm → T (signed_ok 12 imm) → imm_i w ≡ imm
i_imm w imm e ok = imm_is imm (digits_i w) ok (sym e)

s_imm : (w imm : ℕ) → bits w 31 25 ≡ bits imm 11 5 → bits w 11 7 ≡ low 5 imm → T (signed_ok 12 imm) → imm_s w ≡ imm
s_imm w imm e₅ e₀ ok = imm_is imm (digits_s w) ok (sym e₅, sym e₀)

b_imm : (w imm : ℕ) → bits w 31 31 ≡ bits imm 12 12 → bits w 30 25 ≡ bits imm 10 5 → bits w 11 8 ≡ bits imm 4 1 → bits w 7 7 ≡ bits imm 11 11
    → T (signed_ok 13 imm && even_ok imm) → imm_b w ≡ imm
b_imm w imm e₁₂ e₅ e₁ e₁₁ ok = even_is imm (digits_b w) ok (λ even. (sym e₁₂, (sym e₁₁, (sym e₅, (sym e₁, even)))))

j_imm : (w imm : ℕ) → bits w 31 31 ≡ bits imm 20 20 → bits w 30 21 ≡ bits imm 10 1 → bits w 20 20 ≡ bits imm 11 11 → bits w 19 12 ≡ bits imm 19 12
    → T (signed_ok 21 imm && even_ok imm) → imm_j w ≡ imm
j_imm w imm e₂₀ e₁ e₁₁ e₁₂ ok = even_is imm (digits_j w) ok (λ even. (sym e₂₀, (sym e₁₂, (sym e₁₁, (sym e₁, even)))))

-- a register, and the operands after it
with_reg : {A : Type 0} {m n : A} (c : Bool) (x : ℕ) (r : Reg) → x ≡ low 5 r.number → (T c → m ≡ n) → T (reg_ok r && c)
    → ◌≡◌ {A = Reg × A} (reg x, m) (r, n)
with_reg c x r e f ok i = (reg (field_is x 5 r.number (and_left (reg_ok r) c ok) e i), f (and_right (reg_ok r) c ok) i)

-- ---- what the word means, by its format: f is the row of the opcode, at what the fields hold

row : (w op : ℕ) → opcode w ≡ op → decoded w ≡ find None (opcodes w) op (λ m. m)
unfolding decoded
row w op e = ap (λ (k : ℕ). find None (opcodes w) k (λ m. m)) e

r_means : (w f7 f3 op : ℕ) (d s t : Reg) (f : ℕ → ℕ → Reg → Reg → Reg → Option Inst)
    → find None (opcodes w) (low 7 op) (λ m. m) ≡ f (funct7 w) (funct3 w) (rd w) (rs1 w) (rs2 w) → T (reg_ok d && (reg_ok s && reg_ok t))
    → Has w (format_r f7 t.number s.number f3 d.number op) → decoded w ≡ f (low 7 f7) (low 3 f3) d s t
r_means w f7 f3 op d s t f fits ok (h7, (ht, (hs, (h3, (hd, ho))))) =
    let p =
    with_reg (reg_ok s && reg_ok t) (bits w 11 7) d hd
    (with_reg (reg_ok t) (bits w 19 15) s hs (λ k. ap reg (field_is (bits w 24 20) 5 t.number k ht)))
    ok in
    row w (low 7 op) ho ∙ fits ∙ (λ i. f (h7 i) (h3 i) (p i).0 (p i).1.0 (p i).1.1)

-- the immediate m, which is imm in range
i_means : (w imm f3 op m : ℕ) (d s : Reg) (c : Bool) (f : ℕ → Reg → Reg → ℕ → Option Inst)
    → find None (opcodes w) (low 7 op) (λ m. m) ≡ f (funct3 w) (rd w) (rs1 w) m → (bits w 31 20 ≡ low 12 imm → T c → m ≡ imm)
    → T (reg_ok d && (reg_ok s && c)) → Has w (format_i imm s.number f3 d.number op) → decoded w ≡ f (low 3 f3) d s imm
i_means w imm f3 op m d s c f fits is ok (hi, (hs, (h3, (hd, ho)))) =
    let p = with_reg (reg_ok s && c) (bits w 11 7) d hd (with_reg c (bits w 19 15) s hs (is hi)) ok in
    row w (low 7 op) ho ∙ fits ∙ (λ i. f (h3 i) (p i).0 (p i).1.0 (p i).1.1)

u_means : (w field op : ℕ) (d : Reg) (f : Reg → ℕ → Option Inst) → find None (opcodes w) (low 7 op) (λ m. m) ≡ f (rd w) (field_u w)
    → T (reg_ok d && ltb field (2 ^ 20)) → Has w (format_u field d.number op) → decoded w ≡ f d field
u_means w field op d f fits ok (hf, (hd, ho)) =
    let p = with_reg (ltb field (2 ^ 20)) (bits w 11 7) d hd (λ k. field_is (field_u w) 20 field k hf) ok in
    row w (low 7 op) ho ∙ fits ∙ (λ i. f (p i).0 (p i).1)

pub reads : (w : ℕ) (i : Inst) → w < 2 ^ 32 → T (in_range i) → Has w (digits_of i) → decoded w ≡ Some i
unfolding in_range decoded
reads w (Lui d field) l ok h = u_means w field 0b0110111 d (λ d n. Some (Lui d n)) refl ok h
reads w (Auipc d field) l ok h = u_means w field 0b0010111 d (λ d n. Some (Auipc d n)) refl ok h
reads w (Jal d imm) l ok (h20, (h1, (h11, (h12, (hd, ho))))) =
    let p = with_reg (signed_ok 21 imm && even_ok imm) (bits w 11 7) d hd (j_imm w imm h20 h1 h11 h12) ok in
    row w 0b1101111 ho ∙ (λ i. Some (Jal (p i).0 (p i).1))
reads w (Jalr d s imm) l ok h = i_means w imm 0b000 0b1100111 (imm_i w) d s (signed_ok 12 imm) decode_jalr refl (i_imm w imm) ok h
reads w (Branch o s t imm) l ok (h12, (h5, (ht, (hs, (h3, (h1, (h11, ho))))))) =
    let c = signed_ok 13 imm && even_ok imm in
    let p = with_reg (reg_ok t && c) (bits w 19 15) s hs (with_reg c (bits w 24 20) t ht (b_imm w imm h12 h5 h1 h11)) ok in
    row w 0b1100011 ho ∙ (λ i. decode_branch (h3 i) (p i).0 (p i).1.0 (p i).1.1) ∙ branch_is o s t imm
reads w (Load o d s imm) l ok h = i_means w imm (load_code o) 0b0000011 (imm_i w) d s (signed_ok 12 imm) decode_load refl (i_imm w imm) ok h ∙ load_is o d s imm
reads w (Store o s t imm) l ok (h5, (ht, (hs, (h3, (h0, ho))))) =
    let c = signed_ok 12 imm in
    let p = with_reg (reg_ok t && c) (bits w 19 15) s hs (with_reg c (bits w 24 20) t ht (s_imm w imm h5 h0)) ok in
    row w 0b0100011 ho ∙ (λ i. decode_store (h3 i) (p i).0 (p i).1.0 (p i).1.1) ∙ store_is o s t imm
reads w (Imm o d s imm) l ok h =
    i_means w imm (imm_code o) 0b0010011 (imm_i w) d s (signed_ok 12 imm) (λ f d s n. decode_immediate f (funct7 w) d s (shamt w) n) refl (i_imm w imm) ok h
    ∙ immediate_is o (funct7 w) d s (shamt w) imm
reads w (Shift o d s amount) l ok h =
    r_means w (shift_code7 o) (shift_code o) 0b0010011 d s (reg amount) (λ f7 f3 d s t. decode_immediate f3 f7 d s t.number (imm_i w)) refl ok h
    ∙ shift_is o d s amount (imm_i w)
reads w (Arith o d s t) l ok h = r_means w (arith_code7 o) (arith_code o) 0b0110011 d s t decode_register refl ok h ∙ arith_is o d s t
reads w (Fence d s field) l ok h =
    i_means w field 0b000 0b0001111 (funct12 w) d s (ltb field (2 ^ 12)) decode_fence refl (λ e k. field_is (funct12 w) 12 field k e) ok h
reads w Ecall l ok h = ap decoded (sym (whole w (digits_of Ecall) l h))
reads w Ebreak l ok h = ap decoded (sym (whole w (digits_of Ebreak) l h))
reads w (MulDiv o d s t) l ok h = r_means w 0b0000001 (mul_div_code o) 0b0110011 d s t decode_register refl ok h ∙ mul_div_is o d s t
