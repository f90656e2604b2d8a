-- By the law of scattered pieces.
use Rattle.std.proofs.Common.{◌/◌, ◌^◌}
use Rattle.word.proofs.Scatter.{last, put, gather}
use Rattle.shortener.proofs.form_cl.Goals as goal

pub returns : goal.returns
returns c =
    gather c.args.funct3 3 13 (put (c.args.imm / 2 ^ 3) 3 10 (put c.args.rs1 3 7 (put (c.args.imm / 2 ^ 2) 1 6 (put (c.args.imm / 2 ^ 6) 1 5 (put c.args.rd 3 2 (last c.args.low 2)))))) tt
