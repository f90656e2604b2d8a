-- Each turn writes one register, or what it had.
use mathlib.Core.Path.{refl, sym, ◌∙◌}
use Rattle.state.proofs.Writes.{start, turn, end}
use Rattle.state.proofs.write.Goals as goal

pub loop-k-init : goal.loop-k-init
loop-k-init c = sym (start c.number-n.result c.args.v c.args.x.now)

pub returns : goal.returns
returns c = c.loop-k.invariant ∙ end c.number-n.result c.args.v c.args.x.now c.loop-k.k (rw c.told-x c.loop-k-test.false) ∙ rw c.number-n.ensures refl
