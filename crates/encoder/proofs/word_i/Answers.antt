-- Each field is masked and shifted to its place, and no two places overlap.
use Rattle.word.proofs.Scatter.{gather, put, last}
use Rattle.encoder.proofs.word_i.Goals as goal

pub returns : goal.returns
returns c =
    let s = c.number-s.result in
    let d = c.number-d.result in
    let imm = c.args.imm in
    let f3 = c.args.funct3 in
    let op = c.args.opcode in
    rw (← c.number-s.ensures, ← c.number-d.ensures)
    (gather imm 12 20 (put s 5 15 (put f3 3 12 (put d 5 7 (last op 7)))) tt)
