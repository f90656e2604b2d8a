-- Of each halfword's instruction, the halfword that is tried stands for it too and is no larger, and the instruction is in range:
-- a test of each of the 65,536, which antt computes.
use mathlib.Core.Path.{◌≡◌, refl, subst, subst⁻¹}
use mathlib.Core.Bool.{Bool, true, false, cond, ◌&&◌}
use Prim.Native.Nat.{ℕ, ◌^◌, ◌≤◌, ◌<◌, zero-le}
use native.Mathlib.Omega.{arith}
use borrow.Author.Tests.{eq-eqb}
use lib.Dec.{T, leb, eqb, leb→le, eqb→eq}
use Rattle.word.proofs.Bools.{and_left, and_right, and_both, holds}
use Rattle.word.proofs.Sweep.{every, at}
use Rattle.isa.specs.declared.Inst.{Inst}
use Rattle.isa.specs.declared.Parts.{Parts}
use Rattle.isa.specs.Operations.{parts_of, same_parts}
use Rattle.isa.specs.Encoding.{in_range}
use Rattle.isa.specs.Rvc.{expanded}
use Rattle.isa.specs.Shortening.{means, stands}
use Rattle.shortest.specs.Trial.{tried, try_for}
use Rattle.std.specs.Prelude.{None, Option, Some}

-- of what the halfword h means. Where h itself is the one that is tried, as most are, it stands for its instruction without a test
abbrev pub best : Option Inst → ℕ → Bool
best (Some i) h = in_range i && cond (eqb (tried (parts_of i)) h) true (leb (tried (parts_of i)) h && stands i (tried (parts_of i)))
best None h = true

abbrev pub test : ℕ → Bool
test h = best (expanded h) h

-- in four parts, each far below antt's limit of steps for one declaration
passes_0 : T (every test 14 0x0000)
unfolding expanded try_for in_range
passes_0 = tt

passes_1 : T (every test 14 0x4000)
unfolding expanded try_for in_range
passes_1 = tt

passes_2 : T (every test 14 0x8000)
unfolding expanded try_for in_range
passes_2 = tt

passes_3 : T (every test 14 0xc000)
unfolding expanded try_for in_range
passes_3 = tt

passes : T (every test 16 0)
passes =
    and_both (every test 15 0x0000) (every test 15 0x8000) (and_both (every test 14 0x0000) (every test 14 0x4000) passes_0 passes_1)
    (and_both (every test 14 0x8000) (every test 14 0xc000) passes_2 passes_3)

-- what the test says of a halfword that is legal
pub record Best (i : Inst) (h : ℕ) : Type 0 where
  pub encodable : T (in_range i)
  pub no_larger : tried (parts_of i) ≤ h
  pub stands_too : T (stands i (tried (parts_of i)))

itself : (p : Parts) → same_parts p p ≡ true
itself p =
    let eq : (n : ℕ) → eqb n n ≡ true = λ n. eq-eqb n n refl in
    rw (eq p.operation, eq p.rd, eq p.rs1, eq p.rs2, eq p.imm)

fits : (i : Inst) (h k : ℕ) → expanded h ≡ Some i → (b : Bool) → eqb k h ≡ b → T (cond b true (leb k h && stands i k)) → (k ≤ h) × T (stands i k)
fits i h k e true q u =
    let m : k ≡ h = eqb→eq k h (holds (eqb k h) q) in
    (omega (arith, m), subst⁻¹ (λ (n : ℕ). T (stands i n)) m (subst⁻¹ (λ (d : Option Inst). T (means d i)) e (holds (same_parts (parts_of i) (parts_of i)) (itself (parts_of i)))))
fits i h k e false q u = (leb→le k h (and_left (leb k h) (stands i k) u), and_right (leb k h) (stands i k) u)

pub best_of : (h : ℕ) (i : Inst) → h < 2 ^ 16 → expanded h ≡ Some i → Best i h
best_of h i l e =
    let t : T (best (Some i) h) = subst (λ (d : Option Inst). T (best d h)) e (at test 16 0 passes h zero-le l) in
    let k : ℕ = tried (parts_of i) in
    let rest : Bool = cond (eqb k h) true (leb k h && stands i k) in
    let f = fits i h k e (eqb k h) refl (and_right (in_range i) rest t) in
    record {
      encodable = and_left (in_range i) rest t;
      no_larger = f.0;
      stands_too = f.1;
    }
