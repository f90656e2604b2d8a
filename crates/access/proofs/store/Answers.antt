-- `access::store` meets its contract: the place is the map's, and each arm is the row of `stored_to` for it.
use Rattle.place.proofs.Placed.{placed_memory, placed_fuse}
use Rattle.access.specs.Accesses.{stored_to}
use Rattle.access.proofs.Places.{place_is}
use Rattle.access.proofs.store.Goals as goal

pub store_of-requires : goal.store_of-requires
store_of-requires c =
    rw c.store_width-width.ensures
    (placed_memory _ _ _ _ (place_is _ _ c.store_width-width.ensures c.place_of-place.ensures c.in-Memory.is)).1

pub store_in_row-requires : goal.store_in_row-requires
store_in_row-requires c = placed_fuse _ _ _ _ (place_is _ _ c.store_width-width.ensures c.place_of-place.ensures c.in-Fuse.is)

pub returns-in-Memory : goal.returns-in-Memory
unfolding stored_to
returns-in-Memory c =
    rw (
      place_is _ _ c.store_width-width.ensures c.place_of-place.ensures c.in-Memory.is,
      c.on_to.ensures,
      c.store_of.ensures,
      c.store_width-width.ensures,
    )

pub returns-in-Fuse : goal.returns-in-Fuse
unfolding stored_to
returns-in-Fuse c = rw (place_is _ _ c.store_width-width.ensures c.place_of-place.ensures c.in-Fuse.is, ← c.store_in_row.ensures)

pub returns-in-Misaligned : goal.returns-in-Misaligned
unfolding stored_to
returns-in-Misaligned c = rw (place_is _ _ c.store_width-width.ensures c.place_of-place.ensures c.in-Misaligned.is, c.new.ensures)

pub returns-in-Outside : goal.returns-in-Outside
unfolding stored_to
returns-in-Outside c = rw (place_is _ _ c.store_width-width.ensures c.place_of-place.ensures c.in-Outside.is, c.new-in-Outside.ensures)
