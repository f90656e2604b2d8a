-- What was said lies in the room.
use Rattle.std.proofs.Common.{ap, arith}
use lib.Seq.{length-take-le}
use Rattle.assembly_io.proofs.Saying.{size, said-short}
use Rattle.assembly_io.proofs.assemble_from.Goals as goal

pub slice_bounds-room-end : goal.slice_bounds-room-end
slice_bounds-room-end g c = omega (arith, said-short _ _ c.say.result _ c.say.ensures, ap size c.in-Output.is)

pub slice_bounds-write_all-end : goal.slice_bounds-write_all-end
slice_bounds-write_all-end g c =
    omega (arith, length-take-le c.in-Output.length c.say.new.room (omega (arith, said-short _ _ c.say.result _ c.say.ensures, ap size c.in-Output.is)))

pub slice_bounds-room-end-in-Error : goal.slice_bounds-room-end-in-Error
slice_bounds-room-end-in-Error g c = omega (arith, said-short _ _ c.say.result _ c.say.ensures, ap size c.in-Error.is)

pub slice_bounds-write_all-end-in-Error : goal.slice_bounds-write_all-end-in-Error
slice_bounds-write_all-end-in-Error g c =
    omega (arith, length-take-le c.in-Error.length c.say.new.room (omega (arith, said-short _ _ c.say.result _ c.say.ensures, ap size c.in-Error.is)))
