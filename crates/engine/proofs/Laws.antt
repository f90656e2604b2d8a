-- The laws of steps and runs: runs add up, a stopped world stays, the count grows by the steps that complete, and a step that stops changes the stop number and its address alone.
use Prim.Native.Nat.{ℕ, zero, suc, ◌+◌, ◌-◌, ◌≤◌, ◌<◌, ◌^◌}
use native.Mathlib.Nat.{zero-add, suc-add}
use native.Mathlib.Omega.{arith}
use mathlib.Core.Path.{◌≡◌, refl, sym, ap, ◌∙◌}
use mathlib.Core.Bool.{Bool, true, false}
use mathlib.Core.Logic.{◌↔◌}
use lib.Dec.{eqb}
use borrow.Author.Tests.{eqb-true, eq-eqb, ne_eqb, lt-ltb, le-ltb}
use Rattle.answers.specs.Outcomes.{outcome}
use Rattle.answers.specs.Stops.{stop_number, nowhere}
use Rattle.answers.proofs.Numbers.{stop-numbered}
use Rattle.answers.specs.declared.Cause.{Cause}
use Rattle.answers.specs.declared.Stop.TheVariants.{CountFull}
use Rattle.word.specs.Bits.{flag}
use Rattle.word.proofs.Bools.{flag_le}
use Rattle.state.specs.declared.State.{State}
use Rattle.state.specs.States.{halted}
use Rattle.boards.specs.Boards.{Board}
use Rattle.access.specs.Accesses.{Done}
use Rattle.access.specs.declared.Effect.{Effect}
use Rattle.access.specs.declared.Effect.TheVariants.{Next, Halt}
use Rattle.execute.specs.declared.Act.{Act}
use Rattle.execute.specs.Execution.{performed}
use Rattle.execute.proofs.Acts.{Comes, sets, loads, into_memory, into_row, zero_into_row, stops, StopsBy}
use Rattle.engine.specs.Steps.{World, masked, onward, act_at, asked, applied, after, paused, stepped, ran, goes_on, completes, retired}
use Rattle.engine.proofs.Walk.{walk}

-- ---- runs

pub ran-add : (a b : ℕ) (w : World) → ran (a + b) w ≡ ran b (ran a w)
unfolding ran
ran-add zero b w = rw zero-add
ran-add (suc a) b w = rw suc-add (ran-add a b (stepped w))

pub step_stopped : (w : World) → (w.st.stop ≡ 0 → ⊥) → stepped w ≡ w
unfolding stepped
step_stopped w h = rw (ne_eqb _ _ h)

pub ran_stopped : (n : ℕ) (w : World) → (w.st.stop ≡ 0 → ⊥) → ran n w ≡ w
unfolding ran
ran_stopped zero w h = refl
ran_stopped (suc n) w h = rw (step_stopped w h) (ran_stopped n w h)

-- ---- the masks stay

masks-stepped : (w : World) → (stepped w).grant ≡ w.grant
masks-stepped w = walk w (λ c v. v.grant ≡ w.grant) (λ e. refl) (λ e d c. refl)

pub masks-ran : (n : ℕ) (w : World) → (ran n w).grant ≡ w.grant
unfolding ran
masks-ran zero w = refl
masks-ran (suc n) w = masks-ran n (stepped w) ∙ masks-stepped w

-- where a run left the state and the board, the whole world goes on
pub ran-onward : (n : ℕ) (w : World) → onward w (ran n w).st (ran n w).board ≡ ran n w
ran-onward n w = ap (λ m. masked m (ran n w).st (ran n w).board) (sym (masks-ran n w))

-- ---- the retired count

applied-count : (e : Effect) (s : State) → (applied e s).count ≡ s.count + flag (goes_on e)
unfolding applied
applied-count (Next rd v pc) s = refl
applied-count (Halt why) s = omega arith

count-stepped : (w : World) → (stepped w).st.count ≡ w.st.count + flag (completes w)
count-stepped w = walk w (λ c v. v.st.count ≡ w.st.count + flag c) (λ e. omega arith) (λ e d c. applied-count d.answer w.st)

pub count-ran : (n : ℕ) (w : World) → (ran n w).st.count ≡ w.st.count + retired n w
unfolding ran retired
count-ran zero w = omega arith
count-ran (suc n) w = let h = count-ran n (stepped w) in let k = count-stepped w in omega arith

-- a run that ended in the state t
pub count_grew : (budget : ℕ) (w : World) {t : State} {b : Board} → onward w t b ≡ ran budget w → t.count ≡ w.st.count + retired budget w
count_grew budget w e = ap (λ (v : World). v.st.count) e ∙ count-ran budget w

pub count_grew_by : (budget : ℕ) (w : World) {t : State} {b : Board} → onward w t b ≡ ran budget w → t.count - w.st.count ≡ retired budget w
count_grew_by budget w e = let h = count_grew budget w e in omega arith

-- what changes nothing grows no count
pub retired_stopped : (n : ℕ) (w : World) → (w.st.stop ≡ 0 → ⊥) → retired n w ≡ 0
retired_stopped n w h = omega (arith, count-ran n w, ap (λ (v : World). v.st.count) (ran_stopped n w h))

pub retired-add : (a b : ℕ) (w : World) → retired (a + b) w ≡ retired a w + retired b (ran a w)
unfolding ran retired
retired-add zero b w = rw (zero-add b) (omega arith)
retired-add (suc a) b w = rw suc-add (let h = retired-add a b (stepped w) in omega arith)

retired_le : (n : ℕ) (w : World) → retired n w ≤ n
unfolding retired
retired_le zero w = omega arith
retired_le (suc n) w = omega (arith, flag_le (completes w), retired_le n (stepped w))

-- a run retires at most the budget, and its count grows by that
pub counts_up : (n : ℕ) (w : World) → (retired n w ≤ n) × ((ran n w).st.count ≡ w.st.count + retired n w)
counts_up n w = (retired_le n w, count-ran n w)

-- ---- a step that stops

-- where an act stops, the board is as it was
clean : {own : ℕ} {b : Board} {a : Act} {d : Done} → Comes own b a d → goes_on d.answer ≡ false → (why : Cause) × StopsBy a why × (d ≡ outcome (Halt why) b)
clean (sets rd v pc) e = absurd (omega (arith, ap flag e))
clean (loads o rd a pc v h) e = absurd (omega (arith, ap flag e))
clean (into_memory o v a pc i p h) e = absurd (omega (arith, ap flag e))
clean (into_row o v a pc k p h mine z ne) e = absurd (omega (arith, ap flag e))
clean (zero_into_row o v a pc k p z) e = absurd (omega (arith, ap flag e))
clean (stops a why h) e = (why, h, refl)

pub stops_with : (w : World) → paused w ≡ true → completes w ≡ false → (why : Cause) × StopsBy (asked w) why × (stepped w ≡ onward w (halted why w.st) w.board)
unfolding applied
stops_with w p =
    walk w (λ c v. c ≡ false → (why : Cause) × StopsBy (asked w) why × (v ≡ onward w (halted why w.st) w.board))
    (λ e. absurd (omega (arith, ap flag (sym e ∙ p))))
    (λ e d c f. let s = clean c f in (s.0, s.1, ap (λ o. after o w) s.2))

-- a step that completes leaves the stop number
stays_paused : (w : World) → completes w ≡ true → paused (stepped w) ≡ true
unfolding applied
stays_paused w = walk w (λ c v. c ≡ true → paused v ≡ true) (λ e t. absurd (omega (arith, ap flag t))) (λ p d c. go d.answer p)
  where
    go : (e : Effect) → paused w ≡ true → goes_on e ≡ true → eqb (applied e w.st).stop 0 ≡ true
    go (Next rd v pc) p t = p
    go (Halt why) p t = cc

-- a run that began paused is paused exactly if it has retired the budget: a step that stops ends it, for what follows changes nothing
pub paused_exactly : (n : ℕ) (w : World) → paused w ≡ true → (paused (ran n w) ≡ true) ↔ (retired n w ≡ n)
unfolding ran retired
paused_exactly zero w p = (λ e. refl, λ e. p)
paused_exactly (suc n) w p = go (completes w) refl (paused_exactly n (stepped w))
  where
    stopped : completes w ≡ false → paused (ran n (stepped w)) ≡ true → ⊥
    stopped t e =
        let c = stops_with w p t in
        let least = (stop-numbered c.0.stop).1 in
        let s : (stepped w).st.stop ≡ stop_number c.0.stop = ap (λ (v : World). v.st.stop) c.2 in
        let r = ran_stopped n (stepped w) (λ z. omega arith) in
        omega (arith, eqb-true (ran n (stepped w)).st.stop 0 e, ap (λ (v : World). v.st.stop) r)

    go : (b : Bool) → completes w ≡ b → (paused (stepped w) ≡ true → (paused (ran n (stepped w)) ≡ true) ↔ (retired n (stepped w) ≡ n))
        → (paused (ran n (stepped w)) ≡ true) ↔ (flag (completes w) + retired n (stepped w) ≡ suc n)
    go true t ih = let i = ih (stays_paused w t) in (λ e. omega (arith, ap flag t, i.0 e), λ e. i.1 (omega (arith, ap flag t)))
    go false t ih = (λ e. absurd (stopped t e), λ e. absurd (omega (arith, ap flag t, retired_le n (stepped w))))

-- ---- one step, as the code takes it

-- a turn of the loop
pub ran_turn : {w' : World} (n : ℕ) (w : World) → 0 < n → w' ≡ stepped w → ran (n - 1) w' ≡ ran n w
unfolding ran
ran_turn zero w h e = absurd (omega arith)
ran_turn (suc n) w h e = let k : suc n - 1 ≡ n = omega arith in rw (k, e)

-- a step comes to what its instruction asks for, performed and applied
pub step_does : {a : Act} {e : Effect} {b : Board} {s : State} (w : World) → w.st.stop ≡ 0 → w.st.count < 2 ^ 64 - 1
    → a ≡ act_at w.st.pc w.st.x w.board.mem → outcome e b ≡ performed w.grant.own a w.board → s ≡ applied e w.st → onward w s b ≡ stepped w
unfolding stepped asked
step_does w h k t p e = rw (eq-eqb _ _ h, lt-ltb _ _ k, ← t, ← p, e)

-- a step at the last count stops
pub step_full : (w : World) → w.st.stop ≡ 0 → 2 ^ 64 - 1 ≤ w.st.count → onward w (halted (nowhere CountFull) w.st) w.board ≡ stepped w
unfolding stepped asked performed applied
step_full w h k = rw (eq-eqb _ _ h, le-ltb _ _ k)

-- .. and so does the run
pub ran_full : (n : ℕ) (w : World) → 0 < n → w.st.stop ≡ 0 → 2 ^ 64 - 1 ≤ w.st.count → onward w (halted (nowhere CountFull) w.st) w.board ≡ ran n w
ran_full n w p h k =
    let full : World = onward w (halted (nowhere CountFull) w.st) w.board in
    let e : full ≡ stepped w = step_full w h k in
    sym (ran_stopped (n - 1) full (λ z. omega arith)) ∙ ran_turn n w p e
