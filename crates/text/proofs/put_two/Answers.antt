-- One writer after another.
use Rattle.ascii.proofs.Rooms.{in_turn, room_after}
use Rattle.text.proofs.put_two.Goals as goal

pub put_operand-requires-2 : goal.put_operand-requires-2
put_operand-requires-2 c = room_after _ c.put_operand.ensures c.requires

pub returns : goal.returns
returns c = in_turn c.put_operand.ensures c.put_operand-2.ensures
