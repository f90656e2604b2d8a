use mathlib.Core.Path.{◌≡◌}
use Prim.Native.Nat.{◌+◌, ◌≤◌}
use lib.ListN.{length}
use Rattle.std.specs.Iterator.Adapters.{enumerate_source, enumerate_count}
use Rattle.assembly.specs.Assembly.{assembled}
use Rattle.assembler.specs.Passes.{measured}
use Rattle.assembler.proofs.measure.Given as goal

abbrev pub invariant-loop-line : goal.invariant-loop-line
invariant-loop-line l =
    let rest = (enumerate_source l.line-iterator).rest.now in
    (measured l.length (enumerate_count l.line-iterator) (assembled rest) ≡ measured 0 0 (assembled l.text)) × (l.length + length rest ≤ length l.text)
