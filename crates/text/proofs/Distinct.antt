-- The text of an instruction determines it. The text is cut at its separators: the first piece is the name, which tells the operation and so what the other pieces are, and each of these reads back as its operand.
use mathlib.Core.Path.{◌≡◌, refl, sym, ap, subst, ◌∙◌}
use mathlib.Core.List.{List, [], ◌∷◌, ◌++◌, append-nil, append_assoc}
use mathlib.Core.Bool.{Bool, true, not}
use Prim.Native.Nat.{ℕ, suc}
use Prim.Native.Char.{code}
use Prim.Native.String.{String}
use native.Mathlib.Omega.{arith}
use lib.Dec.{T, eqb, leb, ltb, leb→le, ltb→lt, eqb→eq, T_not}
use lib.ListN.{get_or, drop}
use Rattle.word.specs.Tables.{find}
use Rattle.word.proofs.Bools.{and_left, and_right, is_true, holds}
use Rattle.word.proofs.Signs.{signed_lt}
use Rattle.ascii.specs.Ascii.{bytes}
use Rattle.ascii.specs.Numbers.{decimal, signed_decimal}
use Rattle.ascii.proofs.Distinct.{from, pieces, Token, one_piece, pieces-at, read, number, read-decimal, decimal_from, signed_from, number-decimal, number-signed}
use Rattle.isa.specs.declared.Reg.{Reg}
use Rattle.isa.specs.declared.Inst.{Inst}
use Rattle.isa.specs.declared.Inst.TheVariants.{Lui, Auipc, Jal, Jalr, Branch, Load, Store, Imm, Shift, Arith, Fence, Ecall, Ebreak, MulDiv}
use Rattle.isa.specs.Registers.{reg}
use Rattle.isa.specs.Operations.{parts_of}
use Rattle.isa.specs.Encoding.{signed_ok, in_range}
use Rattle.roundtrip.proofs.Same.{each, by_operation}
use Rattle.text.specs.Names.{names, name_at}
use Rattle.text.specs.Text.{space, comma, parens, register_text, operands_of, text_of, short_text_of}

-- the name is piece 0, and the operands follow
abbrev piece : List ℕ → ℕ → List ℕ
piece text k = get_or (pieces text) k []

-- ---- the name

abbrev operation : Inst → ℕ
operation i = (parts_of i).operation

abbrev name_of : Inst → List ℕ
name_of i = name_at (operation i)

name_token : (i : Inst) → Token (name_of i)
unfolding names name_at
name_token i = one_piece (name_of i) (is_true _ (each (λ i. from 45 (name_of i)) (λ d s t v. tt) i))

-- nothing, or a separator first
abbrev apart : List ℕ → Bool
apart [] = true
apart (b ∷ l) = ltb b 45

first_piece : {n : List ℕ} → Token n → (l : List ℕ) → T (apart l) → piece (n ++ l) 0 ≡ n
first_piece n [] h = rw (append-nil, n.one)
first_piece n (s ∷ r) h = rw (pieces-at s (ltb→lt s 45 h), n.one)

name_first : (i : Inst) → piece (text_of i) 0 ≡ name_of i
unfolding text_of operands_of
name_first i = first_piece (name_token i) (operands_of i) (each (λ i. apart (operands_of i)) (λ d s t v. tt) i)

-- the names from number k on, each read as a number
abbrev numbered : ℕ → List String → List (ℕ × ℕ)
numbered k [] = []
numbered k (s ∷ rest) = (read 0 (bytes s), k) ∷ numbered (suc k) rest

-- the 48 numbers are distinct, so a name tells its operation
operation_of : List ℕ → ℕ
operation_of name = find 0 (numbered 0 names) (read 0 name) (λ k. k)

operation-told : (i : Inst) → operation_of (name_of i) ≡ operation i
unfolding operation_of names name_at read
operation-told i = eqb→eq _ _ (each (λ i. eqb (operation_of (name_of i)) (operation i)) (λ d s t v. tt) i)

-- ---- the operands

-- the text l is one piece, and reads as v
record Reads {A : Type 0} (reading : List ℕ → A) (l : List ℕ) (v : A) : Type 0 where
  token : Token l
  back : reading l ≡ v

abbrev reg_of : List ℕ → Reg
reg_of l = reg (read 0 (drop 1 l))

a-register : (r : Reg) → Reads reg_of (register_text r) r
a-register r = record { token = one_piece (register_text r) (decimal_from r.number); back = rw read-decimal }

a-field : (n : ℕ) → Reads number (decimal n) n
a-field n = record { token = one_piece (decimal n) (decimal_from n); back = number-decimal n }

an_immediate : (k n : ℕ) → T (leb 1 k) → T (leb k 32) → T (signed_ok k n) → Reads number (signed_decimal n) n
an_immediate k n p q t = record { token = one_piece (signed_decimal n) (signed_from n); back = number-signed n (signed_lt k n (leb→le 1 k p) (leb→le k 32 q) (is_true _ t)) }

-- the forms of operands after a name, and what an instruction is made of
module _ {A B : Type 0} {n : List ℕ} (name : Token n) {f : List ℕ → A} {a : List ℕ} {x : A} (p : Reads f a x) {g : List ℕ → B} {b : List ℕ} {y : B} (q : Reads g b y) where
  cut : pieces (n ++ (space a ++ comma b)) ≡ n ∷ a ∷ b ∷ []
  cut = rw (pieces-at (code " ") (omega arith), pieces-at (code ",") (omega arith) a b, name.one, p.token.one, q.token.one)

  two : (make : A → B → Inst) → let t = n ++ (space a ++ comma b) in make (f (piece t 1)) (g (piece t 2)) ≡ make x y
  two make = rw (cut, p.back, q.back)

  module _ {C : Type 0} {h : List ℕ → C} {c : List ℕ} {z : C} (r : Reads h c z) where
    abbrev Made : (A → B → C → Inst) → List ℕ → Type 0
    Made make t = make (f (piece t 1)) (g (piece t 2)) (h (piece t 3)) ≡ make x y z

    three : (make : A → B → C → Inst) → Made make (n ++ (space a ++ comma b ++ comma c))
    three make = rw (← append_assoc n (space a ++ comma b) (comma c), pieces-at (code ",") (omega arith), cut, r.token.one, p.back, q.back, r.back)

    address : (make : A → B → C → Inst) → Made make (n ++ (space a ++ comma b ++ parens c))
    address make =
        rw (← append_assoc n (space a ++ comma b) (parens c), pieces-at (code "(") (omega arith), cut, pieces-at (code ")") (omega arith) c [], r.token.one, p.back, q.back, r.back)

-- i with the operands of a text in the place of its own
refilled : List ℕ → Inst → Inst
refilled t (Lui rd field) = Lui (reg_of (piece t 1)) (number (piece t 2))
refilled t (Auipc rd field) = Auipc (reg_of (piece t 1)) (number (piece t 2))
refilled t (Jal rd imm) = Jal (reg_of (piece t 1)) (number (piece t 2))
refilled t (Jalr rd rs1 imm) = Jalr (reg_of (piece t 1)) (reg_of (piece t 3)) (number (piece t 2))
refilled t (Branch o rs1 rs2 imm) = Branch o (reg_of (piece t 1)) (reg_of (piece t 2)) (number (piece t 3))
refilled t (Load o rd rs1 imm) = Load o (reg_of (piece t 1)) (reg_of (piece t 3)) (number (piece t 2))
refilled t (Store o rs1 rs2 imm) = Store o (reg_of (piece t 3)) (reg_of (piece t 1)) (number (piece t 2))
refilled t (Imm o rd rs1 imm) = Imm o (reg_of (piece t 1)) (reg_of (piece t 2)) (number (piece t 3))
refilled t (Shift o rd rs1 amount) = Shift o (reg_of (piece t 1)) (reg_of (piece t 2)) (number (piece t 3))
refilled t (Arith o rd rs1 rs2) = Arith o (reg_of (piece t 1)) (reg_of (piece t 2)) (reg_of (piece t 3))
refilled t (Fence rd rs1 field) = Fence (reg_of (piece t 1)) (reg_of (piece t 2)) (number (piece t 3))
refilled t Ecall = Ecall
refilled t Ebreak = Ebreak
refilled t (MulDiv o rd rs1 rs2) = MulDiv o (reg_of (piece t 1)) (reg_of (piece t 2)) (reg_of (piece t 3))

refilled_same : (t : List ℕ) (i j : Inst) → operation i ≡ operation j → refilled t i ≡ refilled t j
unfolding refilled
refilled_same t = by_operation (refilled t) (λ d s t v k. refl)

reads_back : (i : Inst) → Token (name_of i) → T (in_range i) → refilled (text_of i) i ≡ i
unfolding text_of operands_of refilled in_range
reads_back (Lui rd field) n h = two n (a-register rd) (a-field field) Lui
reads_back (Auipc rd field) n h = two n (a-register rd) (a-field field) Auipc
reads_back (Jal rd imm) n h = two n (a-register rd) (an_immediate 21 imm tt tt (search (and_left, and_right))) Jal
reads_back (Jalr rd rs1 imm) n h =
    address n (a-register rd) (an_immediate 12 imm tt tt (search (and_left, and_right))) (a-register rs1) (λ d v s. Jalr d s v)
reads_back (Branch o rs1 rs2 imm) n h =
    three n (a-register rs1) (a-register rs2) (an_immediate 13 imm tt tt (search (and_left, and_right))) (Branch o)
reads_back (Load o rd rs1 imm) n h =
    address n (a-register rd) (an_immediate 12 imm tt tt (search (and_left, and_right))) (a-register rs1) (λ d v s. Load o d s v)
reads_back (Store o rs1 rs2 imm) n h =
    address n (a-register rs2) (an_immediate 12 imm tt tt (search (and_left, and_right))) (a-register rs1) (λ t v s. Store o s t v)
reads_back (Imm o rd rs1 imm) n h =
    three n (a-register rd) (a-register rs1) (an_immediate 12 imm tt tt (search (and_left, and_right))) (Imm o)
reads_back (Shift o rd rs1 amount) n h = three n (a-register rd) (a-register rs1) (a-field amount) (Shift o)
reads_back (Arith o rd rs1 rs2) n h = three n (a-register rd) (a-register rs1) (a-register rs2) (Arith o)
reads_back (Fence rd rs1 field) n h = three n (a-register rd) (a-register rs1) (a-field field) Fence
reads_back Ecall n h = refl
reads_back Ebreak n h = refl
reads_back (MulDiv o rd rs1 rs2) n h = three n (a-register rd) (a-register rs1) (a-register rs2) (MulDiv o)

-- ---- the laws

pub text_determines : (i j : Inst) → in_range i ≡ true → in_range j ≡ true → text_of i ≡ text_of j → i ≡ j
text_determines i j hi hj e =
    let names = sym (name_first i) ∙ ap (λ (t : List ℕ). piece t 0) e ∙ name_first j in
    let operations = sym (operation-told i) ∙ ap operation_of names ∙ operation-told j in
    sym (reads_back i (name_token i) (holds _ hi)) ∙ ap (λ (t : List ℕ). refilled t i) e ∙ refilled_same (text_of j) i j operations
    ∙ reads_back j (name_token j) (holds _ hj)

-- no name begins with c
pub short_is_not_long : (i j : Inst) → short_text_of i ≡ text_of j → ⊥
unfolding short_text_of text_of names name_at
short_is_not_long i j e =
    let c : List ℕ → Bool = λ t. eqb (get_or t 0 0) (code "c") in
    T_not (c (text_of j)) (each (λ j. not (c (text_of j))) (λ d s t v. tt) j) (subst (λ t. T (c t)) e tt)
