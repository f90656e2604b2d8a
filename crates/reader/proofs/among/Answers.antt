-- The invariant: none of the operations before reads, and the place is the furthest of theirs.
use Rattle.std.proofs.Common.{Ok, ap, sym, ◌∙◌, arith}
use Rattle.reader.proofs.Choosing.{nothing_yet, found, one_more}
use Rattle.reader.proofs.among.Goals as goal

pub loop-operation-init : goal.loop-operation-init
loop-operation-init c = let a = c.args in nothing_yet a.short a.from a.text.now

pub returns-in-Ok : goal.returns-in-Ok
returns-in-Ok c =
    let a = c.args in
    let l = c.loop-operation in
    ap Ok c.line.ensures ∙ found a.short a.from a.text.now l.operation l.furthest _ _ l.invariant (sym c.in-Ok.is ∙ c.follow.ensures) (omega arith)

pub loop-operation-preserved : goal.loop-operation-preserved
loop-operation-preserved c =
    let a = c.args in
    let l = c.loop-operation in
    one_more a.short a.from a.text.now l.operation l.furthest c.in-Err.at c.max-furthest.result l.invariant (sym c.in-Err.is ∙ c.follow.ensures) c.max-furthest.ensures
