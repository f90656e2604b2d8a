-- `write_slot` meets its contract: the slot's test, then the state's, decide as the contract's do.
use mathlib.Core.Path.{refl, ap}
use Rattle.std.proofs.lemmas.Result.{err_from_is_err_and}
use Rattle.answers.specs.Checks.{passed}
use Rattle.answers.specs.Outcomes.{outcome}
use Rattle.answers.proofs.Entries.{is-refused, is-given}
use Rattle.slots.proofs.write_slot.Goals as goal
use Rattle.std.specs.Prelude.{Err}

pub returns-then-not-is_slot : goal.returns-then-not-is_slot
returns-then-not-is_slot c = is-refused _ Err _ refl (rw (← c.is_slot.ensures, c.if-not-is_slot.true))

pub returns-in_err-check : goal.returns-in_err-check
returns-in_err-check c =
    let p = err_from_is_err_and c.from_residual.result c.from_residual.ensures.1 in
    rw (p.1, p.2) (is-refused _ Err _ refl (rw (← c.is_slot.ensures, c.if-not-is_slot.false, ← c.check.ensures) c.in_err-check.was))

pub returns : goal.returns
returns c =
    is-given Err _ refl
    (rw (← c.is_slot.ensures, c.if-not-is_slot.false, ← c.check.ensures) c.in_ok-check.was)
    (ap (outcome passed) c.put.ensures)
