-- `fuses::burn` meets its contract: the two stores are the two of `burnt`.
use Rattle.fuses.specs.Row.{burnt}
use Rattle.fuses.proofs.burn.Goals as goal

pub returns : goal.returns
unfolding burnt
returns c = rw (c.store-2.ensures, c.store.ensures, c.from.ensures)
