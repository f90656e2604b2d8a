-- `put_all` meets its contract: the bytes stand in the room, which is otherwise as it was.
use mathlib.Core.Path.{refl}
use native.Mathlib.Omega.{arith}
use Rattle.ascii.proofs.Rooms.{copied}
use Rattle.ascii.proofs.Cursor.put_all.Goals as goal

pub returns : goal.returns
returns c =
    let before = c.args.self.now in
    record {
      same_room = refl;
      wrote = copied c.args.text.now before.room.now before.at _ c.copy_from_slice.ensures.after (omega arith) c.requires;
    }
