-- Each field is masked and shifted to its place, and no two places overlap.
use Rattle.word.proofs.Scatter.{gather, put, last}
use Rattle.encoder.proofs.word_u.Goals as goal

pub returns : goal.returns
returns c =
    let d = c.number-d.result in
    let field = c.args.field in
    let op = c.args.opcode in
    rw (← c.number-d.ensures)
    (gather field 20 12 (put d 5 7 (last op 7)) tt)
