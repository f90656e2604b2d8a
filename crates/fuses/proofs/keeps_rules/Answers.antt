-- `fuses::keeps_rules` meets its contract: the upper half is the mark and the three bytes above it.
use native.Mathlib.Omega.{arith}
use Rattle.fuses.proofs.Rows.{upper_rules}
use Rattle.fuses.proofs.keeps_rules.Goals as goal

pub returns : goal.returns
returns c =
    let at = c.args in
    rw (c.load-value.ensures.value, c.load-upper.ensures.value) (upper_rules at.k at.row.now (omega arith) (omega arith))
