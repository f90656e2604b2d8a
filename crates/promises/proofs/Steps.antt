-- An accepted entry passes its tests, and so is the manual's step or run; the rules of a step and of a run are the engine's laws.
use mathlib.Core.Path.{◌≡◌, refl, sym, ap, subst, ◌∙◌}
use mathlib.Core.Bool.{true}
use mathlib.Core.Logic.{inl, inr}
use Prim.Native.Nat.{ℕ}
use native.Mathlib.Omega.{arith}
use borrow.Author.Tests.{eqb-false}
use Rattle.answers.specs.Outcomes.{decided}
use Rattle.answers.specs.Stops.{stop_number, cause, nowhere}
use Rattle.answers.specs.declared.Cause.{Cause}
use Rattle.answers.specs.declared.Stop.TheVariants as S
use Rattle.state.specs.States.{state, well_formed}
use Rattle.state.proofs.Laws.{malformed}
use Rattle.execute.specs.declared.Act.{Act}
use Rattle.execute.specs.declared.Act.TheVariants.{Sets, Loads, Stores, Ends}
use Rattle.execute.specs.Execution.{act_of}
use Rattle.execute.proofs.Acts.{StopsBy, EndsBare, ends_bare}
use Rattle.fetch.proofs.Laws.{FailsBy, fetch_fails}
use Rattle.engine.specs.Steps.{World, onward, asked, ran, retired}
use Rattle.engine.proofs.Walk.{by_asked}
use Rattle.engine.proofs.Kept.{passes_runnable, runnable_ran}
use Rattle.engine.proofs.Laws.{step_stopped, ran_stopped, retired_stopped, counts_up, stops_with, paused_exactly}
use Rattle.machine.proofs.Entries.{one_step, run_accepted}
use Rattle.promises.specs.Steps.{StepIsManual, RunIsManual, address_for, StopsCleanly, StaysFormed, StepIsRun, Counts, NoBudget, StaysStopped, PausedAtBudget}
use Rattle.word.specs.Bits.{flag}
use Rattle.machine.specs.Entries.{run_entry, last_state}
use Rattle.promises.specs.Refusals.{Malformed}
use Rattle.promises.proofs.Refusals.{accepted_passes}

pub step_is_manual : StepIsManual
unfolding decided
step_is_manual w a = rw (accepted_passes w a, decided) (refl, refl)

pub run_is_manual : RunIsManual
unfolding decided
run_is_manual b w a = rw (accepted_passes w a, decided) (refl, refl)

-- ---- where a step stops

module _ (w : World) where
  -- the cause of an act that stops has the address of its stop
  abbrev Located : Act → Type 0
  Located act = (why : Cause) → StopsBy act why → why.address ≡ address_for why.stop w act

  bare_located : (act : Act) → EndsBare act → Located act
  bare_located (Sets rd v next) b why by = absurd by
  bare_located (Loads o rd a next) b why (inl e) = rw e
  bare_located (Loads o rd a next) b why (inr (inl e)) = rw e
  bare_located (Loads o rd a next) b why (inr (inr e)) = rw e
  bare_located (Stores o v a next) b why (inl e) = rw e
  bare_located (Stores o v a next) b why (inr (inl e)) = rw e
  bare_located (Stores o v a next) b why (inr (inr (inl e))) = rw e
  bare_located (Stores o v a next) b why (inr (inr (inr e))) = rw e
  bare_located (Ends c) (inl e) why by = let h : why ≡ nowhere S.Ecall = by ∙ e in rw h
  bare_located (Ends c) (inr e) why by = let h : why ≡ nowhere S.Ebreak = by ∙ e in rw h

  failed_located : (c : Cause) → FailsBy w.st.pc w.board.mem c → Located (Ends c)
  failed_located c (inl e) why by = let h : why ≡ cause S.IllegalInstruction w.st.pc = by ∙ e in rw h
  failed_located c (inr e) why by = let h : why ≡ cause S.FetchOutside _ = by ∙ e in rw h

  located : Located (asked w)
  located =
      by_asked w Located (λ why by. rw by)
      (λ c e. failed_located c (fetch_fails w.st.pc w.board.mem e))
      (λ i len room e. bare_located (act_of i _ w.st.pc w.st.x) (ends_bare i _ w.st.pc w.st.x))

pub stops_cleanly : StopsCleanly
stops_cleanly w p e =
    let s = stops_with w p e in
    let why : Cause = s.0 in
    (why.stop, s.2 ∙ ap (λ a. onward w (state w.st.pc w.st.x w.st.count (stop_number why.stop) a) w.board) (located w why s.1))

pub stays_formed : StaysFormed
stays_formed b w z a = (rw (one_step w).0 (formed 1), formed b)
  where
    well : (n : ℕ) → well_formed (ran n w).st ≡ true
    well n = (runnable_ran n w (passes_runnable w z (accepted_passes w a))).0.1

    formed : (n : ℕ) → Malformed (last_state (run_entry n w).answer) → ⊥
    formed n m =
        let e : last_state (run_entry n w).answer ≡ (ran n w).st = ap (λ o. last_state o.answer) (run_accepted n w (accepted_passes w a)) in
        omega (arith, ap flag (sym (well n) ∙ (malformed (ran n w).st).1 (subst Malformed e m)))

pub step_is_run : StepIsRun
step_is_run = one_step

pub counts : Counts
counts = counts_up

pub no_budget : NoBudget
unfolding ran retired
no_budget w = (refl, refl)

pub stays_stopped : StaysStopped
stays_stopped b w e =
    let h : w.st.stop ≡ 0 → ⊥ = eqb-false _ _ e in
    (step_stopped w h, ran_stopped b w h, retired_stopped b w h)

pub paused_at_budget : PausedAtBudget
paused_at_budget = paused_exactly
