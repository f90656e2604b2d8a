use Rattle.assembler.proofs.Passes.{Left}
use Rattle.assembler.proofs.write_lines.Given as goal

abbrev pub invariant-loop-code : goal.invariant-loop-code
invariant-loop-code l = Left l.text l.initial.room l.room l.code-iterator.rest.now l.length
