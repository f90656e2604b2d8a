-- Its pieces are joined by the law of scattered bits.
use native.Mathlib.Omega.{arith}
use mathlib.Core.Path.{ap, ◌∙◌}
use Prim.Native.Nat.{ℕ, ◌/◌, ◌^◌}
use Rattle.word.specs.Bits.{sext}
use Rattle.word.proofs.Scatter.{Pieces, end, put, gather, gathered_lt}
use Rattle.decoder.proofs.imm_b.Goals as goal

-- the pieces after the first
abbrev pieces : ℕ → Pieces
pieces w = put (w / 2 ^ 7) 1 11 (put (w / 2 ^ 25) 6 5 (put (w / 2 ^ 8) 4 1 end))

pub sign_extend-requires : goal.sign_extend-requires
sign_extend-requires c = omega (arith, gathered_lt (c.args.bits / 2 ^ 31) 1 12 (pieces c.args.bits) tt)

pub returns : goal.returns
returns c = c.sign_extend.ensures ∙ ap (sext 13) (gather (c.args.bits / 2 ^ 31) 1 12 (pieces c.args.bits) tt)
