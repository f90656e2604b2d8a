-- A halfword is refused exactly if the paper's list has it. By the low two bits and the bits 15 to 13: most rows of the manual's tables are legal throughout or
-- illegal throughout; each of the six others is 2,048 halfwords, at which antt computes both.
use mathlib.Core.Path.{◌≡◌, refl, subst}
use mathlib.Core.Bool.{Bool, true, false, not, false≢true}
use mathlib.Core.Logic.{◌↔◌, inl, inr}
use Prim.Native.Nat.{ℕ, zero, suc, ◌+◌, ◌*◌, ◌/◌, ◌%◌, ◌^◌, ◌≤◌, ◌<◌, zero-le}
use native.Mathlib.Omega.{arith}
use lib.Dec.{T}
use Rattle.word.proofs.Rows.{◌and◌}
use Rattle.word.specs.Bits.{bits, low}
use Rattle.word.proofs.Bools.{below}
use Rattle.word.proofs.Sweep.{every, at}
use Rattle.answers.specs.Answer.{refused_with}
use Rattle.answers.proofs.Order.{apart}
use Rattle.isa.specs.Rvc.{expanded}
use Rattle.isa.specs.Answers.{of_decoded}
use Rattle.promises_codes.specs.Halfwords.{illegal_half}
use Rattle.promises_codes.specs.Instructions.{expands}
use Rattle.isa.specs.declared.Inst.{Inst}
use Rattle.std.specs.Prelude.{None, Option, Some}

-- ---- the tables and the list, at one halfword

abbrev agree : Option Inst → Bool → Bool
agree (Some i) listed = not listed
agree None listed = listed

abbrev test : ℕ → Bool
test h = agree (expanded h) (illegal_half h)

exactly_if : (d : Option Inst) (listed : Bool) → T (agree d listed) → (of_decoded d ≡ refused_with 7) ↔ (listed ≡ true)
exactly_if (Some i) true t = absurd t
exactly_if (Some i) false t = (λ e. absurd (apart e), λ e. absurd (false≢true e))
exactly_if None true t = (λ e. refl, λ e. refl)
exactly_if None false t = absurd t

-- ---- cases of a number: n of them, from a on

abbrev Cases : (ℕ → Type 0) → ℕ → ℕ → Type 0
Cases P zero a = Unit {0}
Cases P (suc n) a = P a × Cases P n (a + 1)

pick : (P : ℕ → Type 0) (n a : ℕ) → Cases P n a → (k : ℕ) → a ≤ k → k < a + n → P k
pick P zero a c k l u = absurd (omega arith)
pick P (suc n) a c k l u =
    elim (below k (a + 1)) [
      | inl m ↦ subst P (omega arith) c.0
      | inr m ↦ pick P n (a + 1) c.1 k m (omega arith)
    ]

-- ---- row by row

module _ (h : ℕ) (small : h < 2 ^ 16) where
  -- the row with the code f
  abbrev Row : ℕ → Type 0
  Row f = bits h 15 13 ≡ f → T (test h)

  rows : Cases Row 8 0 → T (test h)
  rows c = pick Row 8 0 c (bits h 15 13) zero-le (omega arith) refl

  -- a row at whose every halfword the test passes
  swept : (q f : ℕ) → T (every (λ k. test (2 ^ 13 * f + 4 * k + q)) 11 0) → low 2 h ≡ q → Row f
  swept q f t e g =
      let k : ℕ = h / 4 % 2 ^ 11 in
      let p : 2 ^ 13 * f + 4 * k + q ≡ h = omega arith in
      subst (λ (n : ℕ). T (test n)) p (at (λ k. test (2 ^ 13 * f + 4 * k + q)) 11 0 t k zero-le (omega arith))

  -- the rows 000 to 111. One that is legal or illegal throughout computes once its code is known
  quadrant_0 : low 2 h ≡ 0 → T (test h)
  unfolding expanded illegal_half
  quadrant_0 e =
      rows
      (swept 0 0 tt e
      and (λ g. rw (e, g) tt)
      and (λ g. rw (e, g) tt)
      and (λ g. rw (e, g) tt)
      and (λ g. rw (e, g) tt)
      and (λ g. rw (e, g) tt)
      and (λ g. rw (e, g) tt)
      and (λ g. rw (e, g) tt)
      and tt)

  quadrant_1 : low 2 h ≡ 1 → T (test h)
  unfolding expanded illegal_half
  quadrant_1 e =
      rows
      ((λ g. rw (e, g) tt)
      and (λ g. rw (e, g) tt)
      and (λ g. rw (e, g) tt)
      and swept 1 3 tt e
      and swept 1 4 tt e
      and (λ g. rw (e, g) tt)
      and (λ g. rw (e, g) tt)
      and (λ g. rw (e, g) tt)
      and tt)

  quadrant_2 : low 2 h ≡ 2 → T (test h)
  unfolding expanded illegal_half
  quadrant_2 e =
      rows
      (swept 2 0 tt e
      and (λ g. rw (e, g) tt)
      and swept 2 2 tt e
      and (λ g. rw (e, g) tt)
      and swept 2 4 tt e
      and (λ g. rw (e, g) tt)
      and (λ g. rw (e, g) tt)
      and (λ g. rw (e, g) tt)
      and tt)

  quadrant_3 : low 2 h ≡ 3 → T (test h)
  unfolding expanded illegal_half
  quadrant_3 e = rw e tt

  passes : T (test h)
  passes = pick (λ q. low 2 h ≡ q → T (test h)) 4 0 (quadrant_0 and quadrant_1 and quadrant_2 and quadrant_3 and tt) (low 2 h) zero-le (omega arith) refl

pub exactly_listed : (h : ℕ) → h < 2 ^ 16 → (expands h ≡ refused_with 7) ↔ (illegal_half h ≡ true)
exactly_listed h l = exactly_if (expanded h) (illegal_half h) (passes h l)
