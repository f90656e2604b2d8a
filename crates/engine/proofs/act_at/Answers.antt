-- By what was fetched.
use Rattle.engine.specs.Steps.{act_fetched}
use Rattle.engine.proofs.act_at.Goals as goal

pub returns-in-Ok : goal.returns-in-Ok
unfolding act_fetched
returns-in-Ok c = rw (← c.fetch.ensures, c.in-Ok.is) (rw c.add.ensures at c.decide.ensures)

pub returns-in-Err : goal.returns-in-Err
unfolding act_fetched
returns-in-Err c = rw (← c.fetch.ensures, c.in-Err.is)
