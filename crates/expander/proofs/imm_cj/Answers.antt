-- By the law of scattered pieces.
use mathlib.Core.Path.{ap, ◌∙◌}
use Prim.Native.Nat.{ℕ, ◌/◌, ◌^◌}
use native.Mathlib.Omega.{arith}
use Rattle.word.specs.Bits.{sext}
use Rattle.word.proofs.Scatter.{Pieces, end, put, gather, gathered_lt}
use Rattle.expander.proofs.imm_cj.Goals as goal

abbrev pieces : ℕ → Pieces
pieces h = put (h / 2 ^ 8) 1 10 (put (h / 2 ^ 9) 2 8 (put (h / 2 ^ 6) 1 7 (put (h / 2 ^ 7) 1 6 (put (h / 2 ^ 2) 1 5 (put (h / 2 ^ 11) 1 4 (put (h / 2 ^ 3) 3 1 end))))))

pub sign_extend-requires : goal.sign_extend-requires
sign_extend-requires c = let h = c.args.h in omega (arith, gathered_lt (h / 2 ^ 12) 1 11 (pieces h) tt)

pub returns : goal.returns
returns c = let h = c.args.h in c.sign_extend.ensures ∙ ap (sext 12) (gather (h / 2 ^ 12) 1 11 (pieces h) tt)
