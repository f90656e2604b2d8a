-- A refusal decides, of board and masks or of the state; else the count grows by what the run retires.
use native.Mathlib.Omega.{arith}
use mathlib.Core.Path.{refl, ◌∙◌, sym}
use Rattle.std.specs.Prelude.{Err}
use Rattle.std.proofs.lemmas.Result.{err_from_is_err_and}
use Rattle.answers.proofs.Entries.{is-refused, is-given}
use Rattle.boards.specs.Boards.{board}
use Rattle.boards.proofs.Boards.{start-refused, start_passed}
use Rattle.engine.specs.Steps.{masked}
use Rattle.engine.proofs.Laws.{count_grew, count_grew_by}
use Rattle.machine.proofs.run.Goals as goal

pub returns-in_err-check_start : goal.returns-in_err-check_start
returns-in_err-check_start c =
    let p = err_from_is_err_and c.from_residual.result c.from_residual.ensures.1 in
    let at = c.args in
    rw (p.1, p.2)
    (is-refused _ Err _ refl (start-refused (board at.mem.now at.row.now) at.grant _ (sym c.check_start.ensures ∙ c.in_err-check_start.was)))

pub returns-in_err-check : goal.returns-in_err-check
returns-in_err-check c =
    let p = err_from_is_err_and c.from_residual-in_err-check.result c.from_residual-in_err-check.ensures.1 in
    let at = c.args in
    rw (p.1, p.2)
    (is-refused _ Err _ refl (start_passed (board at.mem.now at.row.now) at.grant _ (sym c.check_start.ensures ∙ c.in_ok-check_start.was) ∙ sym c.check.ensures ∙ c.in_err-check.was))

pub overflow_sub-result : goal.overflow_sub-result
overflow_sub-result c =
    let at = c.args in
    let row = (rw c.unwrap.ensures at c.as_mut_array.ensures.cases).same in
    omega (arith, count_grew _ (masked at.grant at.s (board at.mem.now at.row.now)) (rw row at c.run_steps-state.ensures))

pub returns : goal.returns
returns c =
    let at = c.args in
    let w = masked at.grant at.s (board at.mem.now at.row.now) in
    let row = (rw c.unwrap.ensures at c.as_mut_array.ensures.cases).same in
    let steps = rw row at c.run_steps-state.ensures in
    is-given Err _ refl (start_passed w.board at.grant _ (sym c.check_start.ensures ∙ c.in_ok-check_start.was) ∙ sym c.check.ensures ∙ c.in_ok-check.was)
    (rw (count_grew_by at.budget w steps, ← steps))
