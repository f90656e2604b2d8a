-- A line that gives a code ends within the text, and what it gives is no longer.
use Rattle.std.proofs.Common.{arith}
use Rattle.assembler.proofs.Passes.{code_turn, fault_turn, sized}
use Rattle.assembler.proofs.CodesIterator.next.Goals as goal

pub slice_bounds-self-count : goal.slice_bounds-self-count
slice_bounds-self-count c = (code_turn _ _ c.code_line.ensures c.in-Ok.code c.in-Ok.is).0

pub slice_bounds-self-start : goal.slice_bounds-self-start
slice_bounds-self-start c = (code_turn _ _ c.code_line.ensures c.in-Ok.code c.in-Ok.is).0

pub returns-in-Ok-clause-steps : goal.returns-in-Ok-clause-steps
returns-in-Ok-clause-steps c = (code_turn _ _ c.code_line.ensures c.in-Ok.code c.in-Ok.is).1

pub returns-in-Ok-clause-goes : goal.returns-in-Ok-clause-goes
returns-in-Ok-clause-goes c =
    let code = c.in-Ok.code in
    let t = (code_turn _ _ c.code_line.ensures code c.in-Ok.is).1 in
    record { on = λ f. (tt, tt, omega (arith, t.0, sized code.width)); keeps = tt; rests = λ f. tt }

pub returns-in-Err-clause-steps : goal.returns-in-Err-clause-steps
returns-in-Err-clause-steps c = fault_turn _ _ c.code_line.ensures c.in-Err.fault c.in-Err.is (grind arith)
