-- By the law of scattered pieces.
use Prim.Native.Nat.{◌/◌, ◌^◌}
use Rattle.word.proofs.Scatter.{end, put, gather}
use Rattle.expander.proofs.imm4spn.Goals as goal

pub returns : goal.returns
returns c =
    let h = c.args.h in
    gather (h / 2 ^ 7) 4 6 (put (h / 2 ^ 11) 2 4 (put (h / 2 ^ 5) 1 3 (put (h / 2 ^ 6) 1 2 end))) tt
