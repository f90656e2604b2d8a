-- Demand 2: each step of the code is the manual's step; and the paper's rules of a step and of a run.
-- Each statement is proved in proofs/Steps.antt.
use Rattle.std.specs.Prelude.{◌≡◌, true, false, cond, ◌↔◌, ℕ, ◌+◌, ◌≤◌, leb, length}
use Rattle.answers.specs.Stops.{stop_number}
use Rattle.answers.specs.Answer.{given, of_result}
use Rattle.answers.specs.declared.Stop.{Stop}
use Rattle.answers.specs.declared.Stop.TheVariants as S
use Rattle.alu.specs.Arithmetic.{sum}
use Rattle.state.specs.States.{state, state_in}
use Rattle.execute.specs.declared.Act.{Act}
use Rattle.execute.specs.declared.Act.TheVariants.{Sets, Loads, Stores, Ends}
use Rattle.engine.specs.Steps.{World, onward, Sized, asked, paused, stepped, completes, ran, retired}
use Rattle.machine.specs.Entries.{step_entry, run_entry, of_ran, state_ran, last_state}
use Rattle.promises.specs.Refusals.{Malformed, machine_rows}

-- no row of the table holds
abbrev pub Accepted : World → Type 0
Accepted w = (n : ℕ) → machine_rows w n → ⊥

-- an accepted step is the manual's step: state and board
abbrev pub StepIsManual : Type 0
StepIsManual = (w : World) → Accepted w → (of_result (step_entry w).answer ≡ given (stepped w).st) × ((step_entry w).lent ≡ (stepped w).board)

-- an accepted run is so many of the manual's steps, and answers how many of them completed
abbrev pub RunIsManual : Type 0
RunIsManual =
    (b : ℕ) (w : World) → Accepted w
    → (of_ran (run_entry b w).answer ≡ given ((ran b w).st, retired b w)) × ((run_entry b w).lent ≡ (ran b w).board)

-- ---- the rules of a step and of a run

-- the address that a load or a store accesses: a register plus an immediate, modulo 2 ^ 32, as `act_of` has it
abbrev pub accessed : Act → ℕ
accessed (Sets rd v next) = 0
accessed (Loads o rd a next) = a
accessed (Stores o v a next) = a
accessed (Ends why) = 0

-- the address that each stop has, in a step of w that asks for the act: for stop 3 the pc; for stop 4 that of the halfword that could not be fetched, which is the second one where the first was within memory; for stops 5 to 9 and 11 the address accessed; for the others zero
abbrev pub address_for : Stop → World → Act → ℕ
address_for S.Ecall w act = 0
address_for S.Ebreak w act = 0
address_for S.IllegalInstruction w act = w.st.pc
address_for S.FetchOutside w act = cond (leb (w.st.pc + 2) (length w.board.mem)) (sum w.st.pc 2) w.st.pc
address_for S.LoadMisaligned w act = accessed act
address_for S.LoadOutside w act = accessed act
address_for S.StoreMisaligned w act = accessed act
address_for S.StoreOutside w act = accessed act
address_for S.AlreadyBurnt w act = accessed act
address_for S.CountFull w act = 0
address_for S.NotOwned w act = accessed act

-- a step that stops sets the stop number and its address, and changes nothing else; pc stays on that instruction and nothing is counted
abbrev pub StopsCleanly : Type 0
StopsCleanly =
    (w : World) → paused w ≡ true → completes w ≡ false
    → (why : Stop) × (stepped w ≡ onward w (state w.st.pc w.st.x w.st.count (stop_number why) (address_for why w (asked w))) w.board)

-- what an accepted step or run hands back is never malformed
abbrev pub StaysFormed : Type 0
StaysFormed =
    (b : ℕ) (w : World) → Sized w → Accepted w
    → (Malformed (state_in (step_entry w).answer) → ⊥) × (Malformed (last_state (run_entry b w).answer) → ⊥)

-- a step is a run of budget 1, refused or not: state or refusal, and board
abbrev pub StepIsRun : Type 0
StepIsRun =
    (w : World)
    → ((step_entry w).answer ≡ state_ran (run_entry 1 w).answer)
    × ((step_entry w).lent ≡ (run_entry 1 w).lent)

-- a run retires at most the budget, and the count grows by the number retired
abbrev pub Counts : Type 0
Counts = (b : ℕ) (w : World) → (retired b w ≤ b) × ((ran b w).st.count ≡ w.st.count + retired b w)

-- budget 0 changes nothing
abbrev pub NoBudget : Type 0
NoBudget = (w : World) → (ran 0 w ≡ w) × (retired 0 w ≡ 0)

-- a stopped state stays stopped: stepping and running it alter nothing and retire 0
abbrev pub StaysStopped : Type 0
StaysStopped = (b : ℕ) (w : World) → paused w ≡ false → (stepped w ≡ w) × (ran b w ≡ w) × (retired b w ≡ 0)

-- a run that began paused is paused exactly if it has retired the budget, even if the next step would stop
abbrev pub PausedAtBudget : Type 0
PausedAtBudget = (b : ℕ) (w : World) → paused w ≡ true → (paused (ran b w) ≡ true) ↔ (retired b w ≡ b)
