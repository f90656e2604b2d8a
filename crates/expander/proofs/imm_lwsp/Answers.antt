-- By the law of scattered pieces.
use Prim.Native.Nat.{◌/◌, ◌^◌}
use Rattle.word.proofs.Scatter.{end, put, gather}
use Rattle.expander.proofs.imm_lwsp.Goals as goal

pub returns : goal.returns
returns c =
    let h = c.args.h in
    gather (h / 2 ^ 2) 2 6 (put (h / 2 ^ 12) 1 5 (put (h / 2 ^ 4) 3 2 end)) tt
