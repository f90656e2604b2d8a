-- By the law of scattered pieces.
use Rattle.std.proofs.Common.{◌/◌, ◌^◌}
use Rattle.word.proofs.Scatter.{last, put, gather}
use Rattle.shortener.proofs.form_16sp.Goals as goal

pub returns : goal.returns
returns c =
    gather c.args.funct3 3 13 (put (c.args.imm / 2 ^ 9) 1 12 (put c.args.rd 5 7 (put (c.args.imm / 2 ^ 4) 1 6 (put (c.args.imm / 2 ^ 6) 1 5 (put (c.args.imm / 2 ^ 7) 2 3 (put (c.args.imm / 2 ^ 5) 1 2 (last c.args.low 2))))))) tt
