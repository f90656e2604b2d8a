-- `put_hex` meets its contract: no digit, or the last digit after the others.
use mathlib.Core.Path.{◌≡◌}
use native.Mathlib.Omega.{arith}
use Prim.Native.Nat.{◌-◌, ◌/◌}
use Rattle.ascii.specs.Numbers.{hex}
use Rattle.ascii.proofs.Rooms.{put_nothing, in_turn, moved}
use Rattle.ascii.proofs.Numbers.{hex-more, hex-length}
use Rattle.ascii.proofs.Cursor.+put_hex.Goals as goal

pub put_hex-requires : goal.put_hex-requires
put_hex-requires t c =
    (omega (arith, c.if-count-gt0.true), omega (arith, hex-length c.args.count c.args.n, hex-length (c.args.count - 1) (c.args.n / 16)))

pub put-requires : goal.put-requires
put-requires t c =
    omega (arith, moved c.put_hex.ensures, hex-length c.args.count c.args.n, hex-length (c.args.count - 1) (c.args.n / 16))

pub returns-then-count-gt0 : goal.returns-then-count-gt0
returns-then-count-gt0 t c =
    rw (hex-more c.args.count c.args.n (omega arith))
    (in_turn c.put_hex.ensures (rw c.hex_digit.ensures at c.put.ensures))

pub returns-else-count-gt0 : goal.returns-else-count-gt0
unfolding hex
returns-else-count-gt0 t c =
    let e : c.args.count ≡ 0 = omega arith in
    rw e (put_nothing _)
