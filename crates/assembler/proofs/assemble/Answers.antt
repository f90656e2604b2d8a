-- `assembler::assemble` meets its contract: a line is at fault, the room is too short, or the output is written.
use Rattle.std.proofs.Common.{arith, rules, sym, ◌∙◌, eqb-true}
use Rattle.assembler.proofs.Passes.{refused-line, small_room, filled-room, nothing-given}
use Rattle.assembler.proofs.assemble.Goals as goal

pub returns-in_err-length : goal.returns-in_err-length
returns-in_err-length c =
    let a = c.args in
    let m = c.measure in
    let refused = refused-line a.text.now a.room.now m.result m.ensures _ c.in_err-length.was in
    search rules

pub returns-then-length-room : goal.returns-then-length-room
returns-then-length-room c =
    let a = c.args in
    let m = c.measure in
    small_room a.text.now a.room.now m.result m.ensures c.in_ok-length.length c.in_ok-length.was (omega arith)

pub returns : goal.returns
returns c =
    let a = c.args in
    let m = c.measure in
    let w = c.write_lines in
    filled-room a.text.now a.room.now m.result m.ensures c.in_ok-length.length c.in_ok-length.was (omega arith) w.result _ w.ensures

pub returns-then-is_empty : goal.returns-then-is_empty
returns-then-is_empty c = nothing-given c.args.text.now c.args.room.now (eqb-true _ 0 (sym c.is_empty.ensures ∙ c.if-is_empty.true))
