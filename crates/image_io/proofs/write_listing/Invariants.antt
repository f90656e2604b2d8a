use Rattle.std.proofs.Common.{◌≡◌, ◌-◌, length}
use Rattle.image_io.proofs.write_listing.Given as goal

-- the buffer keeps its length
abbrev pub invariant-loop-next : goal.invariant-loop-next
invariant-loop-next g l = length l.page ≡ 65536

-- each page moves on, and what is left of the image falls
abbrev pub decreases-loop-next : goal.decreases-loop-next
decreases-loop-next g l = length l.image - l.next
