-- The promises of burning: a step leaves the row or burns one blank word of it, whatever it asks for; so what steps, runs and starts do to a row is one record of facts, which joins along the way. Each promise is one of its facts.
use mathlib.Core.Path.{◌≡◌, refl, ◌∙◌}
use mathlib.Core.Bool.{◌&&◌}
use native.Mathlib.Omega.{arith}
use borrow.Author.Tests.{eq-eqb, ne_eqb}
use mathlib.Core.List.{List, [], ◌∷◌}
use Prim.Native.Nat.{ℕ, zero, suc}
use lib.Dec.{eqb}
use Rattle.answers.specs.Outcomes.{outcome, decided}
use Rattle.word.proofs.Bools.{flag_le}
use Rattle.word.specs.Bits.{low}
use Rattle.fuses.specs.Row.{mark_at, word_stored, Row}
use Rattle.fuses.proofs.Burning.{RowStep, stays, burning, Leads, at_rest, join, by_step, step_leaves, row-not-zero}
use Rattle.boards.specs.Boards.{Board}
use Rattle.answers.specs.Stops.{cause}
use Rattle.answers.specs.declared.Stop.TheVariants.{AlreadyBurnt}
use Rattle.place.specs.declared.Place.TheVariants.{Fuse}
use Rattle.access.specs.declared.Effect.TheVariants.{Halt}
use Rattle.access.specs.Accesses.{Done, on_to, stored_in_row, stored_to}
use Rattle.execute.specs.Execution.{performed}
use Rattle.execute.specs.declared.Act.{Act}
use Rattle.execute.proofs.Acts.{Comes, sets, loads, into_memory, into_row, zero_into_row, stops}
use Rattle.engine.specs.Steps.{World, checked, asked, step_done, applied, stepped, ran, goes_on}
use Rattle.engine.proofs.Walk.{walk}
use Rattle.machine.specs.Entries.{run_given, run_entry}
use Rattle.promises.specs.Burning.{stores_there, burns, stores_in, turns_in, Start, begun, row_after, if_run, stores_over, turns_over, StaysARow, BurntOnce, KeepsValue, KeepsValueInRun, BurntNotZero, NewlyBurnt, StoresTo, ZeroIsNoPulse, BurntStops, ClearingBurnsNothing}
use Rattle.answers.specs.Checks.{Check}
use Rattle.std.specs.Prelude.{Err, Ok}

-- ---- one step

row_comes : {own : ℕ} {b : Board} {a : Act} {d : Done} → Comes own b a d → RowStep b.row (goes_on d.answer && stores_there a b) d.lent.row
row_comes (sets rd v pc) = stays
row_comes (loads o rd a pc v h) = stays
row_comes (into_memory o v a pc i e h) = rw e stays
row_comes (into_row o v a pc k e h mine z ne) = rw (e, ne_eqb (low 32 v) 0 ne) (burning k v h z ne)
row_comes (zero_into_row o v a pc k e z) = rw (e, eq-eqb (low 32 v) 0 z) stays
row_comes (stops a why by) = stays

row_step : (w : World) → RowStep w.board.row (burns w) (stepped w).board.row
row_step w = walk w (λ c v. RowStep w.board.row (c && stores_there (asked w) w.board) v.board.row) (λ e. stays) (λ e d c. row_comes c)

-- ---- steps, runs, starts

by_steps : (k n : ℕ) (w : World) → Row w.board.row → Leads k w.board.row (ran n w).board.row (stores_in n w) (turns_in k n w)
unfolding ran stores_in turns_in
by_steps k zero w r = at_rest k w.board.row r
by_steps k (suc n) w r = let a = by_step k r (row_step w) in join a (by_steps k n (stepped w) a.row)

-- a run, which a refusal keeps from changing the row
by_run : (k : ℕ) (c : Check) (n : ℕ) (w : World) → Row w.board.row
    → Leads k w.board.row (decided c (run_given n w) Err w.board).lent.row (if_run c (stores_in n w)) (if_run c (turns_in k n w))
unfolding decided
by_run k (Ok u) n w r = by_steps k n w r
by_run k (Err why) n w r = at_rest k w.board.row r

by_starts : (k : ℕ) (es : List Start) (f : List ℕ) → Row f → Leads k f (row_after es f) (stores_over es f) (turns_over k es f)
unfolding row_after stores_over turns_over
by_starts k [] f r = at_rest k f r
by_starts k (e ∷ es) f r =
    let a = by_run k (checked (begun e f)) e.budget (begun e f) r in
    join a (by_starts k es (run_entry e.budget (begun e f)).lent.row a.row)

-- ---- the promises

pub stays_a_row : StaysARow
stays_a_row es f r =
    let g = (by_starts 0 es f r).row in
    (g, rw (eq-eqb _ 512 g.0, g.1))

pub burnt_once : BurntOnce
burnt_once es f k r l = rw (by_starts k es f r).mark (flag_le (eqb (mark_at k (row_after es f)) 1))

pub keeps_value : KeepsValue
keeps_value es f k r l e = (by_starts k es f r).keeps e

pub keeps_value_in_run : KeepsValueInRun
keeps_value_in_run n w k r l e = (by_steps k n w r).keeps e

pub burnt_not_zero : BurntNotZero
burnt_not_zero es f k r l = row-not-zero k (row_after es f) (by_starts 0 es f r).row l

pub newly_burnt : NewlyBurnt
newly_burnt es f r = (by_starts 0 es f r).words

-- ---- a store to a word

module _ {w : World} {k v : ℕ} (s : StoresTo w k v) where
  done : step_done w ≡ stored_to w.grant.own (Fuse k) s.o v s.a s.next w.board
  unfolding performed
  done = rw (s.asks, s.there)

pub zero_is_no_pulse : ZeroIsNoPulse
unfolding stored_to stored_in_row word_stored stepped applied
zero_is_no_pulse w k v s z m =
    let d : step_done w ≡ outcome (on_to s.next) w.board = done s ∙ rw (s.mine, eq-eqb _ 0 m, eq-eqb _ 0 z) in
    rw (s.goes, d) (refl, refl)

pub burnt_stops : BurntStops
unfolding stored_to stored_in_row word_stored stepped applied
burnt_stops w k v s m =
    let d : step_done w ≡ outcome (Halt (cause AlreadyBurnt s.a)) w.board = done s ∙ rw (s.mine, m) in
    rw (s.goes, d) (refl, refl, refl)

pub clearing_burns_nothing : ClearingBurnsNothing
unfolding ran stores_in
clearing_burns_nothing zero w e = refl
clearing_burns_nothing (suc n) w e =
    clearing_burns_nothing n (stepped w) (omega arith) ∙ step_leaves (row_step w) (omega arith)
