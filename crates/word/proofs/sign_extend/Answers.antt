-- The sign is 0 or 1, and in either case the sum is the definition's.
use Rattle.std.proofs.Common.{arith, ◌≡◌, ◌-◌, ◌/◌, ◌^◌, sym, ◌∙◌}
use native.Mathlib.Nat.{add_comm}
use Rattle.word.proofs.Signs.{ones_from, sign_lt, sext_set}
use Rattle.word.proofs.sign_extend.Goals as goal

pub returns-else-sign-eq0 : goal.returns-else-sign-eq0
returns-else-sign-eq0 c =
    let x = c.args.x in
    let k = c.args.k in
    let one : x / 2 ^ (k - 1) ≡ 1 = omega (arith, c.if-sign-eq0.false, sign_lt k x c.requires.0 c.requires.2) in
    rw (ones_from k c.requires.1) (add_comm x (2 ^ 32 - 2 ^ k) ∙ sym (sext_set k x one))
