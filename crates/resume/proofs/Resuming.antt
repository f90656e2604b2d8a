-- What running slot k comes to, by what its calls found: the refusal of board and masks, then the slot's; else the run of the state that was read, written back.
use Prim.Native.Nat.{ℕ, ◌-◌}
use mathlib.Core.Path.{◌≡◌, refl, sym, ◌∙◌}
use mathlib.Core.List.{List}
use Rattle.answers.specs.Outcomes.{outcome}
use Rattle.answers.proofs.Entries.{is-refused, is-given}
use Rattle.answers.specs.declared.Refusal.{Refusal}
use Rattle.state.specs.declared.State.{State}
use Rattle.boards.specs.Boards.{Board, start_checked}
use Rattle.boards.proofs.Boards.{start-refused, start_passed}
use Rattle.engine.specs.Steps.{masked, ran}
use Rattle.engine.proofs.Laws.{count_grew_by}
use Rattle.records.specs.Records.{record_of}
use Rattle.slots.specs.Slots.{slot_set, read_checked, read_entry}
use Rattle.slots.proofs.Slots.{refused_was, passed_was, state_was}
use Rattle.resume.specs.Resuming.{Bench, bench_on, resume_checked, resume_entry}
use Rattle.answers.specs.Checks.{Check, passed}
use Rattle.std.specs.Prelude.{Err, Ok, Result}

module _ (budget k : ℕ) (h : Bench) {c : Check} (found : c ≡ start_checked h.board h.grant passed) where
  -- the board is refused, or the masks are
  pub no_start : {r : Refusal} → c ≡ Err r → outcome (Err r) h ≡ resume_entry budget k h
  no_start e = is-refused _ Err h refl (start-refused h.board h.grant (read_checked k h.slots) (sym found ∙ e))

  module _ (lent : c ≡ passed) {back : Result State Refusal} (read : outcome back tt ≡ read_entry k h.slots) where
    read_first : resume_checked k h ≡ read_checked k h.slots
    read_first = start_passed h.board h.grant (read_checked k h.slots) (sym found ∙ lent)

    -- the slot is
    pub no_state_lem : {r : Refusal} → back ≡ Err r → outcome (Err r) h ≡ resume_entry budget k h
    no_state_lem e = is-refused _ Err h refl (read_first ∙ refused_was k h.slots read e)

    -- neither
    pub carried_on : {s t : State} {b : Board} {slots : List ℕ} → back ≡ Ok s → masked h.grant t b ≡ ran budget (masked h.grant s h.board)
        → slots ≡ slot_set k (record_of t) h.slots → outcome (Ok (t.count - s.count)) (bench_on h b slots) ≡ resume_entry budget k h
    carried_on {s} e run put =
        is-given Err h refl (read_first ∙ (passed_was k h.slots read e).0)
        (rw (count_grew_by budget (masked h.grant s h.board) run, put, ← (state_was k h.slots read e), ← run))
