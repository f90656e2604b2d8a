use Rattle.std.proofs.Common.{◌≡◌, ◌-◌}
use Rattle.boards.specs.Boards.{board}
use Rattle.engine.specs.Steps.{masked, ran}
use Rattle.engine.proofs.run_steps.Given as goal

abbrev pub invariant-loop-turn : goal.invariant-loop-turn
invariant-loop-turn l = ran (l.budget - l._turn) (masked l.grant l.t (board l.mem l.row)) ≡ ran l.fn.budget (masked l.grant l.fn.s (board l.fn.mem l.fn.row))
