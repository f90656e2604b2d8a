-- By the law of scattered pieces.
use Rattle.std.proofs.Common.{◌/◌, ◌^◌}
use Rattle.word.proofs.Scatter.{last, put, gather}
use Rattle.shortener.proofs.form_cj.Goals as goal

pub returns : goal.returns
returns c =
    gather c.args.funct3 3 13 (put (c.args.imm / 2 ^ 11) 1 12 (put (c.args.imm / 2 ^ 4) 1 11 (put (c.args.imm / 2 ^ 8) 2 9 (put (c.args.imm / 2 ^ 10) 1 8 (put (c.args.imm / 2 ^ 6) 1 7 (put (c.args.imm / 2 ^ 7) 1 6 (put (c.args.imm / 2 ^ 1) 3 3 (put (c.args.imm / 2 ^ 5) 1 2 (last c.args.low 2))))))))) tt
