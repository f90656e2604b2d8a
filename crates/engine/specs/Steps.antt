-- The manual's steps on our memory map, and a run of them.
use Rattle.std.specs.Prelude.{ℕ, zero, suc, ◌+◌, ◌-◌, ◌^◌, Bool, true, false, cond, ◌&&◌, List, eqb, ltb}
use Rattle.answers.specs.Stops.{nowhere}
use Rattle.answers.specs.declared.Stop.TheVariants.{CountFull}
use Rattle.word.specs.Bits.{flag}
use Rattle.alu.specs.Arithmetic.{sum}
use Rattle.state.specs.declared.State.{State}
use Rattle.state.specs.Sizes.{Fits}
use Rattle.state.specs.States.{written, advanced, halted, state_checked}
use Rattle.boards.specs.Boards.{Board, BoardFits, alone, start_checked}
use Rattle.boards.specs.declared.Grant.{Grant}
use Rattle.access.specs.Accesses.{Done}
use Rattle.access.specs.declared.Effect.{Effect}
use Rattle.access.specs.declared.Effect.TheVariants.{Next, Halt}
use Rattle.execute.specs.declared.Act.{Act}
use Rattle.execute.specs.declared.Act.TheVariants.{Ends}
use Rattle.execute.specs.Execution.{act_of, performed}
use Rattle.fetch.specs.Fetching.{fetched}
use Rattle.answers.specs.Checks.{Check}
use Rattle.fetch.specs.Fetching.{Fetched}
use Rattle.std.specs.Prelude.{Err, Ok}

-- everything that a step can see or change, the state, and the board of main memory and fuse row; and the masks, which no step changes
pub record World : Type 0 where
  pub st : State
  pub board : Board
  pub grant : Grant

abbrev pub masked : Grant → State → Board → World
masked m s b = record { st = s; board = b; grant = m }

-- of a call without masks
abbrev pub world : State → Board → World
world s b = masked alone s b

-- with the same masks, another state and board
abbrev pub onward : World → State → Board → World
onward w s b = masked w.grant s b

-- what the types say of every world that there is: the state's numbers fit, and bytes are bytes
pub record Sized (w : World) : Type 0 where
  pub state_fits : Fits w.st
  pub board_fits : BoardFits w.board

-- what the entries ask of a world before its first step: refusals 1, 2, 3, 16, 5, 14 and 15
abbrev pub checked : World → Check
checked w = start_checked w.board w.grant (state_checked w.st)

-- ---- one step

-- what an instruction that was fetched, or a fetch that failed, asks for at pc, over the registers x
unfoldable pub act_fetched : Fetched → ℕ → List ℕ → Act
act_fetched (Ok (i, len)) pc x = act_of i (sum pc len) pc x
act_fetched (Err why) pc x = Ends why

abbrev pub act_at : ℕ → List ℕ → List ℕ → Act
act_at pc x m = act_fetched (fetched pc m) pc x

-- what the next step of a paused world asks for: the retired count at 2 ^ 64 - 1, then the instruction
unfoldable pub asked : World → Act
asked w = cond (ltb w.st.count (2 ^ 64 - 1)) (act_at w.st.pc w.st.x w.board.mem) (Ends (nowhere CountFull))

-- what comes of it
abbrev pub step_done : World → Done
step_done w = performed w.grant.own (asked w) w.board

unfoldable pub applied : Effect → State → State
applied (Next rd v pc) s = advanced pc (written rd v s)
applied (Halt why) s = halted why s

abbrev pub after : Done → World → World
after d w = onward w (applied d.answer w.st) d.lent

abbrev pub paused : World → Bool
paused w = eqb w.st.stop 0

-- a stopped state stays stopped
unfoldable pub stepped : World → World
stepped w = cond (paused w) (after (step_done w) w) w

-- ---- runs

-- n steps
unfoldable pub ran : ℕ → World → World
ran zero w = w
ran (suc n) w = ran n (stepped w)

abbrev pub goes_on : Effect → Bool
goes_on (Next rd v pc) = true
goes_on (Halt why) = false

-- whether the next step completes
abbrev pub completes : World → Bool
completes w = paused w && goes_on (step_done w).answer

-- how many of the next n steps complete
unfoldable pub retired : ℕ → World → ℕ
retired zero w = 0
retired (suc n) w = flag (completes w) + retired n (stepped w)
