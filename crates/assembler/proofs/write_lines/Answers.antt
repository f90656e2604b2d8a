-- The invariant: what is left to write is the rest of the output, and fits.
use Rattle.assembler.proofs.Passes.{fits-here, left_after, left-none}
use Rattle.assembler.proofs.write_lines.Goals as goal

pub store_of-requires : goal.store_of-requires
store_of-requires c =
    let l = c.loop-code in
    let a = c.args in
    fits-here a.text.now a.room.now l.room _ _ l.length l.invariant c.in-Ok.code (rw (c.in-Some.is, c.in-Ok.is) at c.next.ensures.steps)

pub loop-code-preserved : goal.loop-code-preserved
loop-code-preserved c =
    let l = c.loop-code in
    let a = c.args in
    rw c.bytes-length.ensures
    (left_after a.text.now a.room.now l.room _ _ l.length l.invariant c.in-Ok.code (rw (c.in-Some.is, c.in-Ok.is) at c.next.ensures.steps) _ c.store_of.ensures)

pub returns : goal.returns
returns c =
    let l = c.loop-code in
    let a = c.args in
    left-none a.text.now a.room.now l.room _ c.next.new.self.rest.now l.length l.invariant (rw c.in-None.is at c.next.ensures.steps)
