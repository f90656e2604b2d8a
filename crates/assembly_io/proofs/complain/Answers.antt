-- `assembly_io::complain` meets its contract: the number has two digits at most, then a newline.
use native.Mathlib.Omega.{arith}
use Rattle.std.proofs.Common.{rules}
use Rattle.ascii.proofs.Rooms.{in_turn, moved}
use Rattle.assembly_io.specs.Saying.{complaint}
use Rattle.assembly_io.proofs.Saying.{complaint-short}
use Rattle.assembly_io.proofs.complain.Goals as goal

pub put_decimal-requires : goal.put_decimal-requires
put_decimal-requires c = rw c.number.ensures (omega (arith, complaint-short c.args.refusal))

pub put-requires : goal.put-requires
put-requires c =
    let number = rw c.number.ensures at c.put_decimal.ensures in
    omega (arith, moved number, complaint-short c.args.refusal)

pub returns : goal.returns
unfolding complaint
returns c =
    let wrote = in_turn (rw c.number.ensures at c.put_decimal.ensures) c.put.ensures in
    search rules
