-- Each field is masked and shifted to its place, and no two places overlap.
use Prim.Native.Nat.{◌/◌, ◌^◌}
use Rattle.word.proofs.Scatter.{gather, put, last}
use Rattle.encoder.proofs.word_j.Goals as goal

pub returns : goal.returns
returns c =
    let d = c.number-d.result in
    let imm = c.args.imm in
    let op = c.args.opcode in
    rw (← c.number-d.ensures)
    (gather (imm / 2 ^ 20) 1 31 (put (imm / 2 ^ 1) 10 21 (put (imm / 2 ^ 11) 1 20 (put (imm / 2 ^ 12) 8 12 (put d 5 7 (last op 7))))) tt)
