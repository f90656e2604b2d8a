use Rattle.text.specs.Samples.{sample_line}
use Rattle.text.proofs.Samples.{Putting}
use Rattle.text.proofs.put_name.Given as goal

abbrev pub invariant-loop-byte : goal.invariant-loop-byte
invariant-loop-byte l = Putting (sample_line l.operation) l.fn.out l.byte-index l.out
