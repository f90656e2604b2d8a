-- C, a colon, then the text.
use Rattle.ascii.proofs.Rooms.{in_turn, room_before, room_after}
use Rattle.ascii.specs.Ascii.{bytes}
use Rattle.text.specs.Text.{text_of, short_text_of}
use Rattle.text.proofs.put_short_text.Goals as goal

pub put_all-requires : goal.put_all-requires
unfolding short_text_of
put_all-requires c = room_before c.args.out.now (bytes "c:") (text_of c.args.i) c.requires

pub put_text-requires : goal.put_text-requires
unfolding short_text_of
put_text-requires c = room_after _ c.put_all.ensures c.requires

pub returns : goal.returns
unfolding short_text_of
returns c = in_turn c.put_all.ensures c.put_text.ensures
