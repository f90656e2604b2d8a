use Rattle.std.proofs.Common.{◌≡◌}
use Rattle.reader.specs.Line.{Unreadable, among_from}
use Rattle.reader.proofs.among.Given as goal

abbrev pub invariant-loop-operation : goal.invariant-loop-operation
invariant-loop-operation l = among_from l.short l.from l.operation l.text ≡ Unreadable l.furthest
