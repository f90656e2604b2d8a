-- A legal 32-bit instruction never has entry 0: where the entry is 0, no row of the decoding's table is legal.
use mathlib.Core.Path.{◌≡◌, refl}
use mathlib.Core.Bool.{Bool, true, false, not, ◌||◌}
use Prim.Native.Nat.{ℕ, ◌/◌}
use native.Mathlib.Omega.{arith}
use lib.Dec.{T, eqb}
use Rattle.word.specs.Bits.{bits}
use Rattle.word.proofs.Rows.{◌and◌, found}
use Rattle.word.proofs.Sweep.{every, at}
use Rattle.isa.specs.Fields.{opcode, funct3, rd, rs1, rs2, funct12, imm_i, imm_s, imm_b}
use Rattle.isa.specs.Decoding.{decoded, opcodes, decode_jalr, decode_branch, decode_load, decode_store, decode_fence, decode_system, systems}
use Rattle.isa.specs.declared.Inst.{Inst}
use Rattle.chart.specs.Chart.{none, class_of, charted}
use Rattle.std.specs.Prelude.{None, Option, Some}

-- what is not legal, as a type and as a test
abbrev Nothing : Option Inst → Type 0
Nothing d = d ≡ None

abbrev nothing : Option Inst → Bool
nothing (Some i) = false
nothing None = true

is_nothing : (d : Option Inst) → T (nothing d) → Nothing d
is_nothing (Some i) t = absurd t
is_nothing None t = refl

-- a seven-bit opcode has an entry at this funct3, or what it means there is nothing
abbrev shown : ℕ → (ℕ → Option Inst) → ℕ → Bool
shown op meaning f3 = not (eqb (class_of (op / 4) f3) none) || nothing (meaning f3)

-- bits 6 to 2 are the opcode without its low two
five : (w : ℕ) → bits w 6 2 ≡ opcode w / 4
five w = omega arith

module _ (w : ℕ) (z : charted w ≡ none) where
  -- an opcode's row, by the test at the eight values of funct3
  row : (op : ℕ) (meaning : ℕ → Option Inst) → T (every (shown op meaning) 3 0) → opcode w ≡ op → Nothing (meaning (funct3 w))
  row op meaning t e =
      is_nothing (meaning (funct3 w)) (rw (← e, ← five w, z) at (at (shown op meaning) 3 0 t (funct3 w) (omega arith) (omega arith)))

  -- an opcode with an entry at each funct3
  full : (op : ℕ) (d : Option Inst) → T (every (shown op (λ f3. d)) 3 0) → opcode w ≡ op → Nothing d
  full op d = row op (λ f3. d)

  -- a word that has an entry
  word : (k : ℕ) (d : Option Inst) → T (not (eqb (charted k) none)) → w ≡ k → Nothing d
  word k d t e = absurd (rw (← e, z) at t)

  system : Nothing (decode_system w)
  unfolding class_of
  system = found Nothing None refl systems w (λ i. Some i) (word 0x00000073 _ tt and word 0x00100073 _ tt and tt)

  none-legal : Nothing (decoded w)
  unfolding decoded class_of
  none-legal =
      found Nothing None refl (opcodes w) (opcode w) (λ m. m)
      (full 0b0110111 _ tt
      and full 0b0010111 _ tt
      and full 0b1101111 _ tt
      and row 0b1100111 (λ f3. decode_jalr f3 (rd w) (rs1 w) (imm_i w)) tt
      and row 0b1100011 (λ f3. decode_branch f3 (rs1 w) (rs2 w) (imm_b w)) tt
      and row 0b0000011 (λ f3. decode_load f3 (rd w) (rs1 w) (imm_i w)) tt
      and row 0b0100011 (λ f3. decode_store f3 (rs1 w) (rs2 w) (imm_s w)) tt
      and full 0b0010011 _ tt
      and full 0b0110011 _ tt
      and row 0b0001111 (λ f3. decode_fence f3 (rd w) (rs1 w) (funct12 w)) tt
      and (λ e. system)
      and tt)

pub legal_charted : (w : ℕ) (i : Inst) → decoded w ≡ Some i → charted w ≡ 0 → ⊥
legal_charted w i l z =
    let d = none-legal w z in
    let impossible : ◌≡◌ {A = ℕ} 0 1 = cc in
    omega arith
