-- The invariant: the whole is what is left, after the bytes and lines so far; the bytes so far and those left are no more than the text.
use Rattle.std.proofs.Common.{ℕ, ◌+◌, sym, ap, ◌∙◌, arith}
use Rattle.std.specs.Iterator.Adapters.{enumerate_source, enumerate_count}
use Rattle.assembly.specs.Assembly.{assembled}
use Rattle.octets.specs.Widths.{width_bytes}
use Rattle.assembler.specs.Passes.{measured}
use Rattle.assembler.proofs.Passes.{measures_on, measures_end}
use Rattle.assembler.proofs.measure.Goals as goal

pub loop-line-preserved : goal.loop-line-preserved
loop-line-preserved c =
    let l = c.loop-line in
    let code = c.in-Ok.code in
    let t = rw (c.in-Some.is, c.in-Ok.is) at c.next.ensures.steps in
    rw c.bytes-length.ensures (
      ap (λ (n : ℕ). measured (l.length + width_bytes code.width) n (assembled (enumerate_source c.next.new.self).rest.now)) t.2
          ∙ sym (measures_on _ _ l.length (enumerate_count l.line-iterator) code t.0) ∙ l.invariant.0,
      omega (arith, l.invariant.1, t.0.0),
    )

pub returns : goal.returns
returns c =
    let l = c.loop-line in
    let t = rw c.in-None.is at c.next.ensures.steps in
    measures_end _ (enumerate_source c.next.new.self).rest.now l.length (enumerate_count l.line-iterator) t.0 ∙ l.invariant.0
