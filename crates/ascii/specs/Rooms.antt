-- Text in a room that the caller lends.
use Rattle.std.specs.Prelude.{◌≡◌, List, ◌++◌, ℕ, ◌+◌, ◌≤◌, length, drop}
use Rattle.std.proofs.lemmas.List.Edits.{sets}
use Rattle.ascii.specs.declared.Cursor.{Cursor}

-- the text stands in the room from `at` on, every other byte is as it was before, and `end` is the place after the text
pub record Wrote (before : List ℕ) (at : ℕ) (text after : List ℕ) (end : ℕ) : Type 0 where
  pub room : after ≡ sets before at text
  pub next : end ≡ at + length text

-- the text at the front of the room, then what was there
abbrev pub fronted : List ℕ → List ℕ → List ℕ
fronted text room = text ++ drop (length text) room

-- the text fits from the cursor on
abbrev pub HasRoom : Cursor → List ℕ → Type 0
HasRoom c text = c.at + length text ≤ length c.room.now

-- the text was written where the cursor stood, and the cursor stands after it, in the same room
pub record Appended (before : Cursor) (text : List ℕ) (after : Cursor) : Type 0 where
  pub same_room : after.room.ghost_name ≡ before.room.ghost_name
  pub wrote : Wrote before.room.now before.at text after.room.now after.at
