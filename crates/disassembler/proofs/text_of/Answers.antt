-- The text of an instruction in range fits.
use native.Mathlib.Omega.{arith}
use Rattle.disassembler.proofs.Outcomes.{no_room, inst_fits}
use Rattle.disassembler.proofs.text_of.Goals as goal

pub write_text-requires-clause-fits : goal.write_text-requires-clause-fits
write_text-requires-clause-fits c = rw (c.ok_or.ensures.value, c.then_some.ensures, c.in_range.ensures) (inst_fits _ _)

pub returns-then-room-lt-ROOM : goal.returns-then-room-lt-ROOM
returns-then-room-lt-ROOM c = no_room _ _ _ (omega arith)
