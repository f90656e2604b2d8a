-- By the law of scattered pieces.
use Rattle.std.proofs.Common.{◌/◌, ◌^◌}
use Rattle.word.proofs.Scatter.{last, put, gather}
use Rattle.shortener.proofs.form_lwsp.Goals as goal

pub returns : goal.returns
returns c =
    gather c.args.funct3 3 13 (put (c.args.imm / 2 ^ 5) 1 12 (put c.args.rd 5 7 (put (c.args.imm / 2 ^ 2) 3 4 (put (c.args.imm / 2 ^ 6) 2 2 (last c.args.low 2))))) tt
