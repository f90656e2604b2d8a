-- A step is a run of one.
use Rattle.std.proofs.lemmas.Result.{err_from_is_err_and}
use Rattle.boards.specs.Boards.{board}
use Rattle.engine.specs.Steps.{masked}
use Rattle.machine.proofs.Entries.{stepped_by}
use Rattle.machine.proofs.step.Goals as goal

pub returns-in_err-run : goal.returns-in_err-run
returns-in_err-run c =
    let p = err_from_is_err_and c.from_residual.result c.from_residual.ensures.1 in
    let at = c.args in
    rw (p.1, p.2) (stepped_by (masked at.grant at.s (board at.mem.now at.row.now)) c.in_err-run.was c.run.ensures)

pub returns : goal.returns
returns c =
    let at = c.args in
    stepped_by (masked at.grant at.s (board at.mem.now at.row.now)) c.in_ok-run.was c.run.ensures
