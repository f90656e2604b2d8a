-- What the entries step and run answer, and what they leave on the board.
use Rattle.std.specs.Prelude.{ℕ, Result, Ok, Err}
use Rattle.answers.specs.Answer.{Answer, given, refused}
use Rattle.answers.specs.Outcomes.{Outcome, outcome, decided}
use Rattle.answers.specs.declared.Refusal.{Refusal}
use Rattle.state.specs.declared.State.{State}
use Rattle.state.specs.States.{state_in}
use Rattle.boards.specs.Boards.{Board}
use Rattle.engine.specs.Steps.{World, checked, stepped, ran, retired}
use Rattle.machine.specs.declared.Ran.{Ran}

-- ---- step

abbrev pub step_given : World → Outcome (Result State Refusal) Board
step_given w = outcome (Ok (stepped w).st) (stepped w).board

abbrev pub step_entry : World → Outcome (Result State Refusal) Board
step_entry w = decided (checked w) (step_given w) Err w.board

-- ---- run

abbrev pub ran_to : State → ℕ → Result Ran Refusal
ran_to s n = Ok (record { state = s; retired = n })

abbrev pub run_given : ℕ → World → Outcome (Result Ran Refusal) Board
run_given budget w = outcome (ran_to (ran budget w).st (retired budget w)) (ran budget w).board

abbrev pub run_entry : ℕ → World → Outcome (Result Ran Refusal) Board
run_entry budget w = decided (checked w) (run_given budget w) Err w.board

-- in the paper's terms: the last state and the number retired, or the refusal's number
abbrev pub of_ran : Result Ran Refusal → Answer (State × ℕ)
of_ran (Ok r) = given (r.state, r.retired)
of_ran (Err r) = refused r

-- a run's answer without its number
abbrev pub state_ran : Result Ran Refusal → Result State Refusal
state_ran (Ok r) = Ok r.state
state_ran (Err r) = Err r

-- the last state; where the run is refused, one that is malformed
abbrev pub last_state : Result Ran Refusal → State
last_state a = state_in (state_ran a)
