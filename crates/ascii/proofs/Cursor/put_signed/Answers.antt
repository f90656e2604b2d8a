-- `put_signed` meets its contract: decimal, or a minus sign and the decimal of what is missing to 2^32.
use mathlib.Core.Path.{◌≡◌}
use native.Mathlib.Omega.{arith}
use Prim.Native.Nat.{◌-◌, ◌^◌}
use Rattle.ascii.proofs.Rooms.{in_turn, room_after}
use Rattle.ascii.proofs.Numbers.{signed-plain, signed-minus}
use Rattle.ascii.proofs.Cursor.put_signed.Goals as goal

pub put_decimal-requires : goal.put_decimal-requires
put_decimal-requires c = rw (signed-plain _ c.if-n-lt2147483648.true) at c.requires

pub returns-then-n-lt2147483648 : goal.returns-then-n-lt2147483648
returns-then-n-lt2147483648 c = rw (signed-plain _ c.if-n-lt2147483648.true) c.put_decimal.ensures

pub put-requires : goal.put-requires
put-requires c =
    let h = rw (signed-minus _ c.if-n-lt2147483648.false) at c.requires in
    omega arith

pub returns-else-n-lt2147483648 : goal.returns-else-n-lt2147483648
returns-else-n-lt2147483648 c =
    let e : c.wrapping_neg.result ≡ 2 ^ 32 - c.args.n = omega (arith, c.wrapping_neg.ensures, c.wrapping_neg.type_inv) in
    rw (signed-minus _ c.if-n-lt2147483648.false, ← e) (in_turn c.put.ensures c.put_decimal-else-n-lt2147483648.ensures)

pub put_decimal-requires-else-n-lt2147483648 : goal.put_decimal-requires-else-n-lt2147483648
put_decimal-requires-else-n-lt2147483648 c =
    let e : c.wrapping_neg.result ≡ 2 ^ 32 - c.args.n = omega (arith, c.wrapping_neg.ensures, c.wrapping_neg.type_inv) in
    rw e (room_after _ c.put.ensures (rw (signed-minus _ c.if-n-lt2147483648.false) at c.requires))
