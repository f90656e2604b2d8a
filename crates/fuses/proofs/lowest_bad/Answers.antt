-- The first record that breaks the rules is the lowest.
use Rattle.std.proofs.Common.{◌≡◌, refl, sym, ◌∙◌, false, ◌<◌, add-one, arith}
use Rattle.fuses.specs.Row.{all_keep, keeps_rules}
use Rattle.fuses.proofs.Rows.{lowest-is, one_breaks}
use Rattle.fuses.proofs.lowest_bad.Goals as goal

pub returns-then-not-keeps_rules : goal.returns-then-not-keeps_rules
returns-then-not-keeps_rules c =
    let k = c.loop-k.k in
    let row = c.args.row.now in
    let below : k < 64 = omega arith in
    let breaks : keeps_rules k row ≡ false = sym (rw c.from.ensures at c.keeps_rules.ensures) ∙ c.if-not-keeps_rules.true in
    rw (one_breaks 64 k row below breaks, lowest-is 64 k row below c.loop-k.invariant breaks)

pub loop-k-init : goal.loop-k-init
unfolding all_keep
loop-k-init c = refl

pub loop-k-preserved : goal.loop-k-preserved
unfolding all_keep
loop-k-preserved c = rw (add-one, c.loop-k.invariant) (sym (rw c.from.ensures at c.keeps_rules.ensures) ∙ c.if-not-keeps_rules.false)

pub returns : goal.returns
returns c =
    let all : c.loop-k.k ≡ 64 = omega arith in
    rw (rw all at c.loop-k.invariant)
