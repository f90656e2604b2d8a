-- The text of what 16 bits mean fits, with `c:` in front.
use native.Mathlib.Omega.{arith}
use Rattle.disassembler.proofs.Outcomes.{no_room, half-fits, no-longer}
use Rattle.disassembler.proofs.text_of_half.Goals as goal

pub write_text-requires-clause-fits : goal.write_text-requires-clause-fits
write_text-requires-clause-fits c = rw (c.ok_or.ensures.value, c.expand.ensures) (no-longer _ (half-fits _ _))

pub returns-then-room-lt-ROOM : goal.returns-then-room-lt-ROOM
returns-then-room-lt-ROOM c = no_room _ _ _ (omega arith)
