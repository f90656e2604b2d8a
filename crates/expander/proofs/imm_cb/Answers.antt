-- By the law of scattered pieces.
use mathlib.Core.Path.{ap, ◌∙◌}
use Prim.Native.Nat.{ℕ, ◌/◌, ◌^◌}
use native.Mathlib.Omega.{arith}
use Rattle.word.specs.Bits.{sext}
use Rattle.word.proofs.Scatter.{Pieces, end, put, gather, gathered_lt}
use Rattle.expander.proofs.imm_cb.Goals as goal

abbrev pieces : ℕ → Pieces
pieces h = put (h / 2 ^ 5) 2 6 (put (h / 2 ^ 2) 1 5 (put (h / 2 ^ 10) 2 3 (put (h / 2 ^ 3) 2 1 end)))

pub sign_extend-requires : goal.sign_extend-requires
sign_extend-requires c = let h = c.args.h in omega (arith, gathered_lt (h / 2 ^ 12) 1 8 (pieces h) tt)

pub returns : goal.returns
returns c = let h = c.args.h in c.sign_extend.ensures ∙ ap (sext 9) (gather (h / 2 ^ 12) 1 8 (pieces h) tt)
