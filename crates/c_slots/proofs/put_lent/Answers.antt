-- `put_lent` meets its contract: the slot's test decides, then what reading the record answers; else the state goes into the slot.
use mathlib.Core.Path.{sym, ◌∙◌}
use Rattle.std.proofs.lemmas.Result.{err_from_is_err_and}
use Rattle.slots.proofs.Slots.{refused_was, passed_was}
use Rattle.c_slots.proofs.Calls.{no_slot, no_state_lem, written}
use Rattle.c_slots.proofs.put_lent.Goals as goal

pub returns-then-not-is_slot : goal.returns-then-not-is_slot
returns-then-not-is_slot c =
    let at = c.args in
    no_slot at.state.now at.k at.slots.now (sym c.is_slot.ensures ∙ c.if-not-is_slot.true)

pub returns-in_err-s : goal.returns-in_err-s
returns-in_err-s c =
    let at = c.args in
    let p = err_from_is_err_and c.from_residual.result c.from_residual.ensures.1 in
    rw (p.1, p.2) (no_state_lem at.state.now at.k at.slots.now (sym c.is_slot.ensures ∙ c.if-not-is_slot.false) (refused_was 0 at.state.now c.read_slot.ensures c.in_err-s.was))

pub returns : goal.returns
returns c =
    let at = c.args in
    let read = passed_was 0 at.state.now c.read_slot.ensures c.in_ok-s.was in
    written at.state.now at.k at.slots.now (sym c.is_slot.ensures ∙ c.if-not-is_slot.false) read.0 (rw (← read.1) c.put.ensures)
