-- `assembly_io::say` meets its contract: the text is too long, its output is all given, or the refusal's number is written.
use native.Mathlib.Omega.{arith}
use Rattle.std.proofs.Common.{rules}
use Rattle.assembly_io.proofs.Saying.{too_long, all-given, complained}
use Rattle.assembly_io.proofs.say.Goals as goal

pub returns-then-text-gt-TEXT : goal.returns-then-text-gt-TEXT
returns-then-text-gt-TEXT c =
    let a = c.args in
    too_long a.text.now a.room.now c.requires _ _ c.if-text-gt-TEXT.true (search rules)

pub returns-in-Ok : goal.returns-in-Ok
returns-in-Ok c =
    let a = c.args in
    let k = c.assemble in
    all-given a.text.now a.room.now c.requires (omega arith) k.result _ k.ensures c.in-Ok.length c.in-Ok.is

pub returns-in-Err : goal.returns-in-Err
returns-in-Err c =
    let a = c.args in
    let k = c.assemble in
    complained a.text.now a.room.now c.requires (omega arith) k.result _ k.ensures c.in-Err.fault c.in-Err.is _ c.complain.result c.complain.ensures
