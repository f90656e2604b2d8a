-- The halfword that is tried is the smallest, or there is none.
use Rattle.shortest.proofs.Shortest.{by_trial}
use Rattle.shortener.proofs.shorten.Goals as goal

pub returns-then-in_range : goal.returns-then-in_range
returns-then-in_range c = rw (by_trial c.args.i, ← c.in_range.ensures, c.if-in_range.true) c.by_trial.ensures
