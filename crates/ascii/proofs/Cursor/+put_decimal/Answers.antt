-- `put_decimal` meets its contract: one digit alone, or the last digit after the others, which are the text of a smaller number.
use mathlib.Core.Path.{ap}
use native.Mathlib.Omega.{arith}
use lib.ListN.{length, length-append}
use Rattle.ascii.proofs.Rooms.{in_turn, room_after}
use Rattle.ascii.proofs.Numbers.{decimal_one, decimal-more}
use Rattle.ascii.proofs.Cursor.+put_decimal.Goals as goal

pub put-requires : goal.put-requires
put-requires t c = rw (decimal_one _ c.if-n-lt10.true) at c.requires

pub returns-then-n-lt10 : goal.returns-then-n-lt10
returns-then-n-lt10 t c = rw (decimal_one _ c.if-n-lt10.true) c.put.ensures

pub put_decimal-requires : goal.put_decimal-requires
put_decimal-requires t c =
    (omega (arith, c.if-n-lt10.false), omega (arith, simp length-append at (ap length (decimal-more _ c.if-n-lt10.false))))

pub put-requires-else-n-lt10 : goal.put-requires-else-n-lt10
put-requires-else-n-lt10 t c = room_after _ c.put_decimal.ensures (rw (decimal-more _ c.if-n-lt10.false) at c.requires)

pub returns-else-n-lt10 : goal.returns-else-n-lt10
returns-else-n-lt10 t c = rw (decimal-more _ c.if-n-lt10.false) (in_turn c.put_decimal.ensures c.put-else-n-lt10.ensures)
