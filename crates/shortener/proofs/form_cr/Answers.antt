-- By the law of scattered pieces.
use Rattle.word.proofs.Scatter.{last, put, gather}
use Rattle.shortener.proofs.form_cr.Goals as goal

pub returns : goal.returns
returns c = gather c.args.funct4 4 12 (put c.args.rd 5 7 (put c.args.rs2 5 2 (last c.args.low 2))) tt
