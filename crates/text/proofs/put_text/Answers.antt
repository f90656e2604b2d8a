-- The name, then the operands.
use Rattle.ascii.proofs.Rooms.{in_turn, room_before, room_after}
use Rattle.isa.specs.Operations.{parts_of}
use Rattle.text.specs.Names.{name_at}
use Rattle.text.specs.Text.{operands_of, text_of}
use Rattle.text.proofs.put_text.Goals as goal

pub put_name-requires : goal.put_name-requires
unfolding text_of
put_name-requires c = rw c.parts_of.ensures (room_before c.args.out.now (name_at (parts_of c.args.i).operation) (operands_of c.args.i) c.requires)

pub put_operands-requires : goal.put_operands-requires
unfolding text_of
put_operands-requires c = room_after _ (rw c.parts_of.ensures at c.put_name.ensures) c.requires

pub returns : goal.returns
unfolding text_of
returns c = in_turn (rw c.parts_of.ensures at c.put_name.ensures) c.put_operands.ensures
