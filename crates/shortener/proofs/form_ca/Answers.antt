-- By the law of scattered pieces.
use Rattle.word.proofs.Scatter.{last, put, gather}
use Rattle.shortener.proofs.form_ca.Goals as goal

pub returns : goal.returns
returns c =
    gather c.args.funct6 6 10 (put c.args.rd 3 7 (put c.args.funct2 2 5 (put c.args.rs2 3 2 (last c.args.low 2)))) tt
