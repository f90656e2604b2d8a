use mathlib.Core.Path.{◌≡◌}
use Rattle.state.proofs.Writes.{passed}
use Rattle.state.proofs.write.Given as goal

abbrev pub invariant-loop-k : goal.invariant-loop-k
invariant-loop-k l = l.x ≡ passed l.n l.v l.fn.x l.k
