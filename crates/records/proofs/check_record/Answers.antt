-- `check_record` meets its contract: the four bytes from 136 are the stop number's, and 256 times the three after it.
use native.Mathlib.Omega.{arith}
use mathlib.Core.Path.{ap}
use lib.Dec.{eqb}
use Rattle.state.specs.States.{form_checked}
use Rattle.records.specs.Records.{state_of}
use Rattle.records.proofs.Records.{after_stop}
use Rattle.records.proofs.check_record.Goals as goal

pub returns : goal.returns
returns c =
    let m = c.args.part.now in
    let zeros = after_stop m (omega arith) (omega (arith, c.type_inv.part 136)) in
    rw (c.check.ensures, c.read_record.ensures, c.load.ensures.value) (ap (λ v. form_checked (eqb v 0) (state_of m)) zeros)
