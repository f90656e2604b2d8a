-- `access::load` meets its contract: the place is the map's, and each arm is the row of `loaded_from` for it.
use Rattle.place.proofs.Placed.{placed_memory, placed_fuse}
use Rattle.access.specs.Accesses.{loaded_from}
use Rattle.access.proofs.Places.{place_is}
use Rattle.access.proofs.load.Goals as goal

pub extended_load-requires : goal.extended_load-requires
extended_load-requires c = (placed_memory _ _ _ _ (place_is _ _ c.load_width.ensures c.place_of-place.ensures c.in-Memory.is)).1

pub load_of_row-requires : goal.load_of_row-requires
load_of_row-requires c = placed_fuse _ _ _ _ (place_is _ _ c.load_width.ensures c.place_of-place.ensures c.in-Fuse.is)

pub returns-in-Memory : goal.returns-in-Memory
unfolding loaded_from
returns-in-Memory c = rw (place_is _ _ c.load_width.ensures c.place_of-place.ensures c.in-Memory.is, c.extended_load.ensures)

pub returns-in-Fuse : goal.returns-in-Fuse
unfolding loaded_from
returns-in-Fuse c = rw (place_is _ _ c.load_width.ensures c.place_of-place.ensures c.in-Fuse.is, c.load_of_row.ensures)

pub returns-in-Misaligned : goal.returns-in-Misaligned
unfolding loaded_from
returns-in-Misaligned c = rw (place_is _ _ c.load_width.ensures c.place_of-place.ensures c.in-Misaligned.is, c.new.ensures)

pub returns-in-Outside : goal.returns-in-Outside
unfolding loaded_from
returns-in-Outside c = rw (place_is _ _ c.load_width.ensures c.place_of-place.ensures c.in-Outside.is, c.new-in-Outside.ensures)
