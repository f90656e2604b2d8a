-- `engine::apply` meets its contract: a write to x0 may be left out.
use mathlib.Core.Path.{sym, ◌∙◌}
use borrow.Author.Tests.{eq-eqb}
use Rattle.engine.specs.Steps.{applied}
use Rattle.engine.proofs.apply.Goals as goal

pub returns-in-0 : goal.returns-in-0
unfolding applied
returns-in-0 c =
    let zero = sym c.number.ensures ∙ c.in-0.is in
    rw (c.in-Next.is, eq-eqb _ 0 zero, c.advance.ensures)

pub returns-in_default : goal.returns-in_default
unfolding applied
returns-in_default c = rw (c.in-Next.is, c.advance-in_default.ensures, c.write.ensures)

pub returns-in-Halt : goal.returns-in-Halt
unfolding applied
returns-in-Halt c = rw (c.in-Halt.is, c.halt.ensures)
