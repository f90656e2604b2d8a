-- By the law of scattered pieces.
use Prim.Native.Nat.{◌/◌, ◌^◌}
use Rattle.word.proofs.Scatter.{end, put, gather}
use Rattle.expander.proofs.imm_lw.Goals as goal

pub returns : goal.returns
returns c =
    let h = c.args.h in
    gather (h / 2 ^ 5) 1 6 (put (h / 2 ^ 10) 3 3 (put (h / 2 ^ 6) 1 2 end)) tt
