-- One writer after another.
use Rattle.ascii.proofs.Rooms.{in_turn, room_after}
use Rattle.text.proofs.put_three.Goals as goal

pub put_operand-requires : goal.put_operand-requires
put_operand-requires c = room_after _ c.put_two.ensures c.requires

pub returns : goal.returns
returns c = in_turn c.put_two.ensures c.put_operand.ensures
