-- `execute::perform` meets its contract: each arm is the row of `performed` for its act.
use Rattle.execute.specs.Execution.{performed}
use Rattle.execute.proofs.perform.Goals as goal

pub returns-in-Sets : goal.returns-in-Sets
unfolding performed
returns-in-Sets c = rw c.in-Sets.is

pub returns-in-Loads : goal.returns-in-Loads
unfolding performed
returns-in-Loads c = rw (c.in-Loads.is, c.load.ensures)

pub returns-in-Stores : goal.returns-in-Stores
unfolding performed
returns-in-Stores c = rw (c.in-Stores.is, c.store.ensures)

pub returns-in-Ends : goal.returns-in-Ends
unfolding performed
returns-in-Ends c = rw c.in-Ends.is
