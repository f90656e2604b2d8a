-- Its pieces are joined by the law of scattered bits.
use native.Mathlib.Omega.{arith}
use mathlib.Core.Path.{ap, ◌∙◌}
use Prim.Native.Nat.{ℕ, ◌/◌, ◌^◌}
use Rattle.word.specs.Bits.{sext}
use Rattle.word.proofs.Scatter.{Pieces, end, put, gather, gathered_lt}
use Rattle.decoder.proofs.imm_j.Goals as goal

-- the pieces after the first
abbrev pieces : ℕ → Pieces
pieces w = put (w / 2 ^ 12) 8 12 (put (w / 2 ^ 20) 1 11 (put (w / 2 ^ 21) 10 1 end))

pub sign_extend-requires : goal.sign_extend-requires
sign_extend-requires c = omega (arith, gathered_lt (c.args.bits / 2 ^ 31) 1 20 (pieces c.args.bits) tt)

pub returns : goal.returns
returns c = c.sign_extend.ensures ∙ ap (sext 21) (gather (c.args.bits / 2 ^ 31) 1 20 (pieces c.args.bits) tt)
