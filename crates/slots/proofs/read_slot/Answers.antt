-- `read_slot` meets its contract: the slot's test, then the record's, decide as the contract's do; the part that is read is the slot.
use mathlib.Core.Path.{refl}
use Rattle.std.proofs.lemmas.Result.{err_from_is_err_and}
use Rattle.answers.proofs.Entries.{is-refused, is-given}
use Rattle.slots.proofs.Slots.{one_record}
use Rattle.slots.proofs.read_slot.Goals as goal
use Rattle.std.specs.Prelude.{Err}

pub returns-else-is_slot : goal.returns-else-is_slot
returns-else-is_slot c = is-refused _ Err tt refl (rw (← c.is_slot.ensures, c.if-is_slot.false))

pub returns-in_err-check_record : goal.returns-in_err-check_record
returns-in_err-check_record c =
    let p = err_from_is_err_and c.from_residual.result c.from_residual.ensures.1 in
    rw (p.1, p.2)
    (is-refused _ Err tt refl
    (rw (← c.is_slot.ensures, c.if-is_slot.true, ← (rw one_record at c.check_record.ensures)) c.in_err-check_record.was))

pub returns-in_ok-check_record : goal.returns-in_ok-check_record
returns-in_ok-check_record c =
    is-given Err tt refl
    (rw (← c.is_slot.ensures, c.if-is_slot.true, ← (rw one_record at c.check_record.ensures)) c.in_ok-check_record.was)
    (rw (c.read_record.ensures, one_record))
