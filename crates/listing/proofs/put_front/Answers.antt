-- Eight digits, a space, so many digits and a space, one after another.
use native.Mathlib.Omega.{arith}
use Rattle.ascii.proofs.Numbers.{hex-length}
use Rattle.ascii.proofs.Rooms.{in_turn, moved}
use Rattle.listing.proofs.Lines.{front_length}
use Rattle.listing.proofs.put_front.Goals as goal

pub put_hex-requires : goal.put_hex-requires
put_hex-requires c = omega (arith, c.requires, front_length c.args.address c.args.digits c.args.bits, hex-length 8 c.args.address)

pub put-requires : goal.put-requires
put-requires c = omega (arith, c.requires, front_length c.args.address c.args.digits c.args.bits, hex-length 8 c.args.address, moved c.put_hex.ensures)

pub put_hex-requires-2 : goal.put_hex-requires-2
put_hex-requires-2 c =
    omega (
      arith,
      c.requires,
      front_length c.args.address c.args.digits c.args.bits,
      hex-length 8 c.args.address,
      hex-length c.args.digits c.args.bits,
      moved c.put_hex.ensures,
      moved c.put.ensures,
    )

pub put-requires-2 : goal.put-requires-2
put-requires-2 c =
    omega (
      arith,
      c.requires,
      front_length c.args.address c.args.digits c.args.bits,
      hex-length 8 c.args.address,
      hex-length c.args.digits c.args.bits,
      moved c.put_hex.ensures,
      moved c.put.ensures,
      moved c.put_hex-2.ensures,
    )

pub returns : goal.returns
returns c = in_turn (in_turn (in_turn c.put_hex.ensures c.put.ensures) c.put_hex-2.ensures) c.put-2.ensures
