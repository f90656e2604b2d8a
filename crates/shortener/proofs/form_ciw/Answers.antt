-- By the law of scattered pieces.
use Rattle.std.proofs.Common.{◌/◌, ◌^◌}
use Rattle.word.proofs.Scatter.{last, put, gather}
use Rattle.shortener.proofs.form_ciw.Goals as goal

pub returns : goal.returns
returns c =
    gather c.args.funct3 3 13 (put (c.args.imm / 2 ^ 4) 2 11 (put (c.args.imm / 2 ^ 6) 4 7 (put (c.args.imm / 2 ^ 2) 1 6 (put (c.args.imm / 2 ^ 3) 1 5 (put c.args.rd 3 2 (last c.args.low 2)))))) tt
