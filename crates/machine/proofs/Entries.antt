-- Laws of the entries: what an accepted run comes to, that a run which has stopped ends so with any larger budget, and that a step is a run of one.
use Prim.Native.Nat.{ℕ, ◌+◌}
use native.Mathlib.Nat.{add-zero}
use mathlib.Core.Path.{◌≡◌, refl, sym, ap, ap₂, ◌∙◌}
use mathlib.Core.Bool.{false}
use borrow.Author.Tests.{eqb-false}
use Rattle.answers.specs.Outcomes.{Outcome, outcome, decided}
use Rattle.answers.specs.declared.Refusal.{Refusal}
use Rattle.boards.specs.Boards.{Board}
use Rattle.machine.specs.declared.Ran.{Ran}
use Rattle.engine.specs.Steps.{World, checked, paused, ran}
use Rattle.engine.proofs.Laws.{ran-add, ran_stopped, retired-add, retired_stopped}
use Rattle.machine.specs.Entries.{step_given, step_entry, run_given, run_entry, state_ran}
use Rattle.answers.specs.Checks.{Check, passed}
use Rattle.std.specs.Prelude.{Err, Ok, Result}

pub run_accepted : (b : ℕ) (w : World) → checked w ≡ passed → run_entry b w ≡ run_given b w
unfolding decided
run_accepted b w e = ap (λ c. decided c (run_given b w) Err w.board) e

-- a run that has stopped after a steps ends so with any larger budget
pub run_ends : (a b : ℕ) (w : World) → paused (ran a w) ≡ false → run_entry (a + b) w ≡ run_entry a w
unfolding decided
run_ends a b w p = go (checked w)
  where
    go : (c : Check) → decided c (run_given (a + b) w) Err w.board ≡ decided c (run_given a w) Err w.board
    go (Ok u) = let h = eqb-false _ _ p in rw (ran-add, retired-add, ran_stopped b (ran a w) h, retired_stopped b (ran a w) h, add-zero)
    go (Err r) = refl

pub one_step : (w : World)
    → ((step_entry w).answer ≡ state_ran (run_entry 1 w).answer)
    × ((step_entry w).lent ≡ (run_entry 1 w).lent)
unfolding decided ran
one_step w = go (checked w)
  where
    go : (c : Check)
        → ((decided c (step_given w) Err w.board).answer ≡ state_ran (decided c (run_given 1 w) Err w.board).answer)
        × ((decided c (step_given w) Err w.board).lent ≡ (decided c (run_given 1 w) Err w.board).lent)
    go (Ok u) = (refl, refl)
    go (Err r) = (refl, refl)

-- a run of one, without its number
pub stepped_by : (w : World) {a c : Result Ran Refusal} {b : Board} → a ≡ c → outcome a b ≡ run_entry 1 w → outcome (state_ran c) b ≡ step_entry w
stepped_by w {b = b} is e =
    ap (λ (r : Result Ran Refusal). outcome (state_ran r) b) (sym is)
    ∙ ap (λ (o : Outcome (Result Ran Refusal) Board). outcome (state_ran o.answer) o.lent) e
    ∙ ap₂ outcome (sym (one_step w).0) (sym (one_step w).1)
