-- By the law of scattered pieces.
use Rattle.std.proofs.Common.{◌/◌, ◌^◌}
use Rattle.word.proofs.Scatter.{last, put, gather}
use Rattle.shortener.proofs.form_cb.Goals as goal

pub returns : goal.returns
returns c =
    gather c.args.funct3 3 13 (put (c.args.imm / 2 ^ 8) 1 12 (put (c.args.imm / 2 ^ 3) 2 10 (put c.args.rs1 3 7 (put (c.args.imm / 2 ^ 6) 2 5 (put (c.args.imm / 2 ^ 1) 2 3 (put (c.args.imm / 2 ^ 5) 1 2 (last c.args.low 2))))))) tt
