-- A page moves on.
use Rattle.std.proofs.Common.{arith}
use Rattle.listing.proofs.Pages.{listed_moves}
use Rattle.image_io.proofs.write_listing.Goals as goal

pub loop-next-smaller : goal.loop-next-smaller
loop-next-smaller g c =
    let at = c.loop-next in
    omega (arith, listed_moves c.args.image.now at.next at.page c.list-listed.ensures (omega arith) (omega arith))
