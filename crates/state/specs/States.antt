-- A state: pc, x1 to x31, the retired count, a stop number and the address that belongs to the stop.
use Rattle.std.specs.Prelude.{ℕ, ◌+◌, ◌-◌, ◌%◌, Bool, true, cond, ◌&&◌, ◌||◌, List, get_or, set, replicate, eqb, leb, Result, Ok, Err}
use Rattle.answers.specs.Checks.{unless, Check, passed}
use Rattle.answers.specs.Stops.{stop_number, last_stop, located}
use Rattle.answers.specs.declared.Cause.{Cause}
use Rattle.answers.specs.declared.Refusal.{Refusal}
use Rattle.answers.specs.declared.Refusal.TheVariants as R
use Rattle.isa.specs.declared.Reg.{Reg}
use Rattle.state.specs.declared.State.{State}

abbrev pub state : ℕ → List ℕ → ℕ → ℕ → ℕ → State
state pc x count stop address = record { pc = pc; x = x; count = count; stop = stop; address = address }

-- the registers x1 to x31; x0 reads 0
abbrev pub register_of : List ℕ → Reg → ℕ
register_of x r = cond (eqb r.number 0) 0 (get_or x (r.number - 1) 0)

-- and drops writes
abbrev pub register_set : Reg → ℕ → List ℕ → List ℕ
register_set r v x = cond (eqb r.number 0) x (set x (r.number - 1) v)

abbrev pub written : Reg → ℕ → State → State
written r v s = state s.pc (register_set r v s.x) s.count s.stop s.address

-- a completed step: the next is at pc, and the count is one more
abbrev pub advanced : ℕ → State → State
advanced pc s = state pc s.x (s.count + 1) s.stop s.address

-- a step that stops sets the stop number and the address, and changes nothing else
abbrev pub halted : Cause → State → State
halted why s = state s.pc s.x s.count (stop_number why.stop) why.address

-- the start of a recipe: all zero
abbrev pub fresh : State
fresh = state 0 (replicate 31 0) 0 0 0

-- what stands in an answer in the place of a state where there is none: its stop number is 255, so that it is refused with 14 wherever it is used
abbrev pub no_state : State
no_state = state 0 (replicate 31 0) 0 255 0

-- the state that is answered, or that one
abbrev pub state_in : Result State Refusal → State
state_in (Ok s) = s
state_in (Err r) = no_state

-- its stop number allows its address: the stop has one, or there is none
abbrev pub address_allowed : State → Bool
address_allowed s = located s.stop || eqb s.address 0

-- an odd pc, a stop number out of range, or an address that it does not allow: malformed
abbrev pub well_formed : State → Bool
well_formed s = eqb (s.pc % 2) 0 && (leb s.stop last_stop && address_allowed s)

-- refusals 5, 14 and 15; `zeros` says whether bytes 137 to 139 are zero of the record that the state is read from
abbrev pub form_checked : Bool → State → Check
form_checked zeros s = unless (eqb (s.pc % 2) 0) R.OddPc (unless (leb s.stop last_stop) R.StopNumber (unless (zeros && address_allowed s) R.RecordEnd passed))

-- of a state that is read from none
abbrev pub state_checked : State → Check
state_checked s = form_checked true s
