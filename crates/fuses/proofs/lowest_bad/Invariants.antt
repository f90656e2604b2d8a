-- The records passed keep the rules.
use Rattle.std.proofs.Common.{◌≡◌, true}
use Rattle.fuses.specs.Row.{all_keep}
use Rattle.fuses.proofs.lowest_bad.Given as goal

abbrev pub invariant-loop-k : goal.invariant-loop-k
invariant-loop-k l = all_keep l.k l.row ≡ true
