-- One writer after another.
use mathlib.Core.List.{◌∷◌}
use Prim.Native.Char.{code}
use Rattle.ascii.specs.Ascii.{bytes}
use Rattle.text.specs.Text.{register_text}
use Rattle.ascii.proofs.Rooms.{in_turn, room_before, room_after}
use Rattle.text.proofs.put_address.Goals as goal

pub put_operand-requires : goal.put_operand-requires
put_operand-requires c = room_before c.put_two.new.out (code "(" ∷ register_text c.args.base) (bytes ")") (room_after _ c.put_two.ensures c.requires)

pub put-requires : goal.put-requires
put-requires c = room_after _ c.put_operand.ensures (room_after _ c.put_two.ensures c.requires)

pub returns : goal.returns
returns c = in_turn c.put_two.ensures (in_turn c.put_operand.ensures c.put.ensures)
