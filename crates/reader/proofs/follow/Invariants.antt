use Rattle.reader.proofs.Following.{Along}
use Rattle.reader.proofs.follow.Given as goal

abbrev pub invariant-loop-piece : goal.invariant-loop-piece
invariant-loop-piece l = Along l.operation l.from l.text l.piece-index l.cursor
