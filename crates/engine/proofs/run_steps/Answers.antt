-- The steps that are left, from where the loop is, come to the whole run.
use native.Mathlib.Omega.{arith}
use native.Mathlib.Nat.{sub-zero}
use mathlib.Core.Path.{◌≡◌, sym, ap, ◌∙◌}
use Prim.Native.Nat.{ℕ, ◌+◌, ◌-◌}
use Rattle.boards.specs.Boards.{board}
use Rattle.engine.specs.Steps.{masked, ran}
use Rattle.engine.proofs.Laws.{ran_stopped, ran_turn, ran_full, step_does}
use Rattle.engine.proofs.run_steps.Goals as goal

pub loop-turn-init : goal.loop-turn-init
loop-turn-init c = ap (λ (n : ℕ). ran n (masked c.args.grant c.args.s (board c.args.mem.now c.args.row.now))) (sub-zero c.args.budget)

pub returns-then-t-ne0 : goal.returns-then-t-ne0
returns-then-t-ne0 c =
    let l = c.loop-turn in
    sym (ran_stopped (c.args.budget - l._turn) (masked c.args.grant l.t (board l.mem l.row)) (λ z. omega (arith, c.if-t-ne0.true))) ∙ l.invariant

pub returns-then-t-ge-FULL_COUNT : goal.returns-then-t-ge-FULL_COUNT
returns-then-t-ge-FULL_COUNT c =
    let l = c.loop-turn in
    rw (c.halt.ensures, c.new.ensures)
    (ran_full (c.args.budget - l._turn) (masked c.args.grant l.t (board l.mem l.row)) (omega (arith, c.loop-turn-test.true)) (omega (arith, c.if-t-ne0.false)) c.if-t-ge-FULL_COUNT.true ∙ l.invariant)

pub loop-turn-preserved : goal.loop-turn-preserved
loop-turn-preserved c =
    let l = c.loop-turn in
    let w = masked c.args.grant l.t (board l.mem l.row) in
    let s = step_does w (omega (arith, c.if-t-ne0.false)) c.if-t-ge-FULL_COUNT.false c.act_at-act.ensures c.perform-e.ensures c.apply-t.ensures in
    let k : c.args.budget - (l._turn + 1) ≡ c.args.budget - l._turn - 1 = omega arith in
    rw k (ran_turn (c.args.budget - l._turn) w (omega (arith, c.loop-turn-test.true)) s ∙ l.invariant)

pub returns : goal.returns
unfolding ran
returns c =
    let l = c.loop-turn in
    let z : c.args.budget - l._turn ≡ 0 = omega (arith, c.loop-turn-test.false) in
    ap (λ (n : ℕ). ran n (masked c.args.grant l.t (board l.mem l.row))) (sym z) ∙ l.invariant
