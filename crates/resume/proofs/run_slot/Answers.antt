-- `run_slot` meets its contract: the refusal of board and masks, then the slot's; else the state that the slot has is run, and its record put back.
use native.Mathlib.Omega.{arith}
use Rattle.std.proofs.lemmas.Result.{err_from_is_err_and}
use Rattle.boards.specs.Boards.{board}
use Rattle.engine.specs.Steps.{masked}
use Rattle.engine.proofs.Laws.{count_grew}
use Rattle.slots.proofs.Slots.{slot_was_there}
use Rattle.resume.specs.Resuming.{shared_bench}
use Rattle.resume.proofs.Resuming.{no_start, no_state_lem, carried_on}
use Rattle.resume.proofs.run_slot.Goals as goal

pub returns-in_err-check_start : goal.returns-in_err-check_start
returns-in_err-check_start c =
    let at = c.args in
    let p = err_from_is_err_and c.from_residual.result c.from_residual.ensures.1 in
    rw (p.1, p.2)
    (no_start at.budget at.k (shared_bench at.grant (board at.mem.now at.row.now) at.slots.now) c.check_start.ensures c.in_err-check_start.was)

pub returns-in_err-s : goal.returns-in_err-s
returns-in_err-s c =
    let at = c.args in
    let p = err_from_is_err_and c.from_residual-in_err-s.result c.from_residual-in_err-s.ensures.1 in
    rw (p.1, p.2)
    (no_state_lem at.budget at.k (shared_bench at.grant (board at.mem.now at.row.now) at.slots.now) c.check_start.ensures c.in_ok-check_start.was
    c.read_slot.ensures c.in_err-s.was)

pub put-requires : goal.put-requires
put-requires c = omega (arith, slot_was_there c.args.k c.args.slots.now c.read_slot.ensures c.in_ok-s.was)

pub overflow_sub-result : goal.overflow_sub-result
overflow_sub-result c =
    let at = c.args in
    let row = (rw c.unwrap.ensures at c.as_mut_array.ensures.cases).same in
    omega (arith, count_grew _ (masked at.grant c.in_ok-s.s (board at.mem.now at.row.now)) (rw row at c.run_steps-t.ensures))

pub returns : goal.returns
returns c =
    let at = c.args in
    let row = (rw c.unwrap.ensures at c.as_mut_array.ensures.cases).same in
    carried_on at.budget at.k (shared_bench at.grant (board at.mem.now at.row.now) at.slots.now) c.check_start.ensures c.in_ok-check_start.was
    c.read_slot.ensures c.in_ok-s.was (rw row at c.run_steps-t.ensures) c.put.ensures
