-- `encoder::signed_ok` meets its contract: 1 << k is 2 ^ k, so the mask is k ones, and what a mask of k ones leaves is the remainder by 2 ^ k.
use native.Mathlib.Omega.{arith}
use native.Mathlib.Nat.{one-mul}
use mathlib.Core.Path.{◌≡◌, ◌∙◌}
use Prim.Native.Nat.{ℕ, ◌*◌, ◌%◌, ◌^◌, ◌<◌}
use lib.Bits.{and_mask}
use lib.Pow.{shl_exact}
use Rattle.ranges.proofs.signed_ok.Goals as goal

one_at : (k : ℕ) → k < 32 → 1 * 2 ^ k % 2 ^ 32 ≡ 2 ^ k
one_at k h = shl_exact 1 k 32 (omega arith) (omega arith) ∙ one-mul (2 ^ k)

pub returns : goal.returns
returns c = let k = c.args.k in rw (c.sign_extend.ensures, one_at k c.requires.1, and_mask c.args.imm k)
