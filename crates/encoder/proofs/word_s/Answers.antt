-- Each field is masked and shifted to its place, and no two places overlap.
use Prim.Native.Nat.{◌/◌, ◌^◌}
use Rattle.word.proofs.Scatter.{gather, put, last}
use Rattle.encoder.proofs.word_s.Goals as goal

pub returns : goal.returns
returns c =
    let t = c.number-t.result in
    let s = c.number-s.result in
    let imm = c.args.imm in
    let f3 = c.args.funct3 in
    let op = c.args.opcode in
    rw (← c.number-t.ensures, ← c.number-s.ensures)
    (gather (imm / 2 ^ 5) 7 25 (put t 5 20 (put s 5 15 (put f3 3 12 (put imm 5 7 (last op 7))))) tt)
