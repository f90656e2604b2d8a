use Prim.Native.Nat.{◌-◌}
use mathlib.Core.Path.{◌≡◌}
use lib.ListN.{length}
use Rattle.listing.proofs.Writing.{Written}
use Rattle.listing.proofs.list.Given as goal

abbrev pub invariant-loop-next : goal.invariant-loop-next
invariant-loop-next l = (l.out.room.ghost_name ≡ l.initial.out.room.ghost_name) × (length l.out.room.now ≡ length l.initial.out.room.now)
    × Written l.image l.from l.initial.out.room.now l.out.room.now l.out.at l.next

abbrev pub decreases-loop-next : goal.decreases-loop-next
decreases-loop-next l = length l.image - l.next
