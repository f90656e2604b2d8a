-- The ways in which a step can go, shown once: it is stopped already, or something is asked for (the count is full, the fetch fails, an instruction) and that comes to one of the six ways of an act.
-- A law of what a step keeps, counts or changes says what holds in each of them.
use mathlib.Core.Path.{◌≡◌, refl}
use mathlib.Core.Bool.{Bool, true, false, cond, ◌&&◌}
use Prim.Native.Nat.{ℕ, ◌-◌, ◌^◌, ◌<◌}
use lib.Dec.{ltb}
use borrow.Author.Tests.{ltb-true}
use Rattle.answers.specs.Stops.{nowhere}
use Rattle.answers.specs.declared.Cause.{Cause}
use Rattle.answers.specs.declared.Stop.TheVariants.{CountFull}
use Rattle.isa.specs.declared.Inst.{Inst}
use Rattle.alu.specs.Arithmetic.{sum}
use Rattle.access.specs.Accesses.{Done}
use Rattle.execute.specs.declared.Act.{Act}
use Rattle.execute.specs.declared.Act.TheVariants.{Ends}
use Rattle.execute.specs.Execution.{act_of}
use Rattle.execute.proofs.Acts.{Comes, comes}
use Rattle.fetch.specs.Fetching.{fetched}
use Rattle.engine.specs.Steps.{World, act_fetched, act_at, asked, step_done, after, paused, stepped, goes_on, completes}
use Rattle.fetch.specs.Fetching.{Fetched}
use Rattle.std.specs.Prelude.{Err, Ok}

-- what holds of the end by a full count, of a fetch that fails, and of every instruction that is fetched while the count has room, holds of what is asked for
module _ (w : World) (P : Act → Type 0) (at-full : P (Ends (nowhere CountFull)))
    (at-fail : (why : Cause) → fetched w.st.pc w.board.mem ≡ Err why → P (Ends why))
    (at-inst : (i : Inst) (len : ℕ) → w.st.count < 2 ^ 64 - 1 → fetched w.st.pc w.board.mem ≡ Ok (i, len) → P (act_of i (sum w.st.pc len) w.st.pc w.st.x))
  where
    by_fetch : w.st.count < 2 ^ 64 - 1 → (t : Fetched) → fetched w.st.pc w.board.mem ≡ t → P (act_fetched t w.st.pc w.st.x)
    unfolding act_fetched
    by_fetch room (Ok (i, len)) e = at-inst i len room e
    by_fetch room (Err why) e = at-fail why e

    pub by_asked : P (asked w)
    unfolding asked
    by_asked = go (ltb w.st.count (2 ^ 64 - 1)) refl
      where
        go : (b : Bool) → ltb w.st.count (2 ^ 64 - 1) ≡ b → P (cond b (act_at w.st.pc w.st.x w.board.mem) (Ends (nowhere CountFull)))
        go true e = by_fetch (ltb-true _ _ e) (fetched w.st.pc w.board.mem) refl
        go false e = at-full

-- what holds of a stopped world, and of what every way of the act asked for leaves, holds of a step: whether it completes, and the world after it
pub walk : (w : World) (P : Bool → World → Type 0) → (paused w ≡ false → P false w)
    → (paused w ≡ true → (d : Done) → Comes w.grant.own w.board (asked w) d → P (goes_on d.answer) (after d w)) → P (completes w) (stepped w)
unfolding stepped
walk w P at_rest does = go (paused w) refl
  where
    go : (b : Bool) → paused w ≡ b → P (b && goes_on (step_done w).answer) (cond b (after (step_done w) w) w)
    go true e = does e (step_done w) (comes w.grant.own w.board (asked w))
    go false e = at_rest e
