-- A cut run ends as the uncut one. A record reads back as its state, whatever else its buffer has, and a step keeps all that the entries ask, so each piece starts where the piece before it ended and is accepted; runs add up. A slot that is left as it was read holds the same bytes.
use mathlib.Core.Path.{◌≡◌, refl, sym, ap, ap₂, subst, ◌∙◌}
use mathlib.Core.Bool.{Bool, true, false}
use mathlib.Core.Logic.{◌⊎◌, inl, inr, ⊎_elim}
use mathlib.Core.List.{List, [], ◌∷◌}
use Prim.Native.Nat.{ℕ, ◌+◌, ◌*◌, ◌^◌}
use native.Mathlib.Omega.{arith}
use lib.ListN.{take, drop}
use lib.Dec.{eqb, lit<}
use borrow.Author.Tests.{eqb-true, eqb-false}
use Rattle.answers.specs.Answer.{given, refused_with, of_result}
use Rattle.answers.specs.Refusals.{number_of}
use Rattle.answers.specs.Checks.{unless, Check, passed}
use Rattle.answers.specs.Outcomes.{Outcome, outcome, decided}
use Rattle.answers.proofs.Checks.{both_passed}
use Rattle.answers.proofs.Order.{apart}
use Rattle.answers.specs.declared.Refusal.{Refusal}
use Rattle.answers.specs.declared.Refusal.TheVariants as R
use Rattle.word.specs.Bounds.{AllBelow}
use Rattle.word.specs.Bits.{flag}
use Rattle.octets.specs.Bytes.{load}
use Rattle.state.specs.declared.State.{State}
use Rattle.state.specs.States.{no_state, state_in, well_formed, state_checked}
use Rattle.state.proofs.Laws.{malformed, form_passed}
use Rattle.boards.specs.Boards.{BoardFits, start_checked}
use Rattle.boards.proofs.Boards.{start-refused, start_passed, start_accepted, start_passes}
use Rattle.engine.specs.Steps.{World, masked, onward, checked, paused, ran, retired}
use Rattle.engine.proofs.Laws.{ran-onward, ran-add, retired-add}
use Rattle.engine.proofs.Kept.{Runnable, runnable_passes, passes_runnable, runnable_ran}
use Rattle.machine.specs.declared.Ran.{Ran}
use Rattle.machine.proofs.Entries.{run_accepted}
use Rattle.machine.specs.Entries.{ran_to, run_given, run_entry, of_ran, last_state}
use Rattle.records.specs.Records.{record_of, state_of, record_checked}
use Rattle.records.proofs.Records.{length_record, record_sound, write_back, bytes_fit, old_record}
use Rattle.slots.specs.Slots.{slot_there, slot_at, slot_set, write_checked, write_entry, read_checked, read_entry}
use Rattle.slots.proofs.Slots.{there-fits, slot-length, slot_set_at, take-before, drop-after, slot_same, slot-bytes, ReadsWell, reads_well, same_record, SlotHolds, holds_set, read_held, write_passes, passed_was, state_was, one_slot_there, one_slot_at}
use Rattle.resume.specs.Resuming.{Bench, shared_bench, bench_on, slot_world, bench_left, resume_checked, resume_given, resume_entry}
use Rattle.promises.specs.Cuts.{Piece, SlotsThere, left_by, read_back, cut_run, answers, total, manual, Cut, sum_answered, RetiredAddsUp, slot_start, slot_run, SlotRunIsRun, slot_runs, answered, slot_answers, added, SlotRunsAddUp, SlotRunAnswers, SlotsStay, RecordOfState, StateOfRecord, NoStateOfRecord, OldRecordsLoad, SlotStaysFormed, WritesItsSlot}
use Rattle.promises.specs.Refusals.{Malformed, RecordMalformed}
use Rattle.promises.proofs.Refusals.{accepted_passes, slot_accepted_passes}
use Rattle.promises.proofs.Steps.{no_budget, stays_stopped}
use Rattle.std.specs.Prelude.{Err, Ok, Result}

-- ---- one run, and one cut

run-runs : (b : ℕ) {v w : World} → v ≡ w → Runnable w → run_entry b v ≡ run_given b w
run-runs b {v} {w} e g = ap (run_entry b) e ∙ run_accepted b w (runnable_passes w g)

pub left_by_lem : (b : ℕ) {v w : World} → v ≡ w → Runnable w → left_by b v ≡ ran b w
left_by_lem b {v} {w} e g =
    ap₂ (λ u q. onward u (last_state q.answer) q.lent) e (run-runs b e g)
    ∙ ran-onward b w

-- a state that was written to a slot is read back from it
pub reads_back : (p : Piece) (w : World) → Runnable w → slot_there p.slot p.slots ≡ true → read_back p w ≡ w
reads_back p w g t =
    let s = w.st in
    ap (λ o. onward w (state_in (read_entry p.slot o.lent).answer) w.board) (write_passes p.slot s p.slots t g.0.1)
    ∙ ap (λ o. onward w (state_in o.answer) w.board) (read_held p.slot s _ (holds_set p.slot s p.slots g.0.0.x_length t) g.0.0 g.0.1)

-- ---- the pieces, one after the other

ends : (b : ℕ) (ps : List Piece) {v w : World} → v ≡ w → Runnable w → SlotsThere ps → (cut_run b ps v ≡ ran (total b ps) w) × (answers b ps v ≡ manual b ps w)
unfolding cut_run answers total manual SlotsThere
ends b [] {v} {w} e g t = (left_by_lem b e g, ap (λ q. of_ran q.answer ∷ []) (run-runs b e g))
ends b (p ∷ ps) {v} {w} e g t =
    let o = run-runs b e g in
    let g' : Runnable (ran b w) = runnable_ran b w g in
    let i = ends p.budget ps (ap (read_back p) (left_by_lem b e g) ∙ reads_back p (ran b w) g' t.0) g' t.1 in
    (i.0 ∙ sym (ran-add b (total p.budget ps) w), λ j. of_ran (o j).answer ∷ i.1 j)

pub cut : Cut
cut b ps w z a t = ends b ps refl (passes_runnable w z (accepted_passes w a)) t

manual_adds_up : (b : ℕ) (ps : List Piece) (w : World) → sum_answered (manual b ps w) ≡ retired (total b ps) w
unfolding sum_answered manual total
manual_adds_up b [] w = omega arith
manual_adds_up b (p ∷ ps) w = ap (λ n. retired b w + n) (manual_adds_up p.budget ps (ran b w)) ∙ sym (retired-add b (total p.budget ps) w)

pub retired_adds_up : RetiredAddsUp
retired_adds_up b ps w z a t = ap sum_answered (cut b ps w z a t).1 ∙ manual_adds_up b ps w

-- ---- running a slot

-- a run from the slot that ended at v
run-left : (b k n : ℕ) (h : Bench) (v : World) → slot_there k h.slots ≡ true → Runnable v → run_entry b (slot_start k h) ≡ outcome (ran_to v.st n) v.board
    → slot_run b k h ≡ bench_left k v h
unfolding slot_run
run-left b k n h v t g e =
    ap (λ (o : Outcome (Result Ran Refusal) _). bench_on h o.lent (write_entry k (last_state o.answer) h.slots).lent) e
    ∙ ap (λ (o : Outcome Check _). bench_on h v.board o.lent) (write_passes k v.st h.slots t g.0.1)

-- a refused one leaves everything: there is no state to write
run-refused : (b k : ℕ) (h : Bench) (r : Refusal) → checked (slot_start k h) ≡ Err r → slot_run b k h ≡ h
unfolding slot_run decided
run-refused b k h r e =
    ap (λ c. bench_on h (decided c (run_given b (slot_start k h)) Err h.board).lent (write_entry k (last_state (decided c (run_given b (slot_start k h)) Err h.board).answer) h.slots).lent) e
    ∙ ap (bench_on h h.board) (go (slot_there k h.slots))
  where
    go : (t : Bool) → (decided (unless t R.Slot (Err R.StopNumber)) (outcome passed (slot_set k (record_of no_state) h.slots)) Err h.slots).lent ≡ h.slots
    go true = refl
    go false = refl

module _ (b k : ℕ) (h : Bench) where
  -- what running the slot comes to, by its check
  abbrev resumed : Check → Outcome (Result ℕ Refusal) Bench
  resumed c = decided c (resume_given b k h) Err h

  abbrev Same : Type 0
  Same = (resumed (resume_checked k h)).lent ≡ slot_run b k h

  both-refused : (p q : Refusal) → resume_checked k h ≡ Err p → checked (slot_start k h) ≡ Err q → Same
  unfolding decided
  both-refused p q e d = ap (λ c. (resumed c).lent) e ∙ sym (run-refused b k h q d)

  -- a slot that does not read leaves no state that could run
  unread : (r : Refusal) → start_checked h.board h.grant passed ≡ passed → read_checked k h.slots ≡ Err r → Same
  unfolding decided
  unread r l e =
      both-refused r R.StopNumber (start_passed h.board h.grant _ l ∙ e)
      (start_passed h.board h.grant _ l ∙ ap (λ c. state_checked (state_in (decided c (outcome (Ok (slot_world k h).st) tt) Err tt).answer)) e)

  -- the state that was read fits, for bytes are bytes
  read : BoardFits h.board → AllBelow (2 ^ 8) h.slots → start_checked h.board h.grant passed ≡ passed → read_checked k h.slots ≡ passed → Same
  unfolding decided
  read f sb l e =
      let w : World = slot_world k h in
      let r : ReadsWell k h.slots = reads_well k h.slots e in
      let a : slot_start k h ≡ w = ap (λ c. masked h.grant (state_in (decided c (outcome (Ok w.st) tt) Err tt).answer) h.board) e in
      let q = start_accepted h.board h.grant passed l in
      let g : Runnable w = ((bytes_fit (slot_at k h.slots) (slot-bytes k h.slots sb), r.formed), (f, q.0), q.1) in
      ap (λ c. (resumed c).lent) (start_passed h.board h.grant _ l ∙ e) ∙ sym (run-left b k (retired b w) h (ran b w) r.there (runnable_ran b w g) (run-runs b a g))

pub slot_run_is_run : SlotRunIsRun
slot_run_is_run b k h f sb = go (start_checked h.board h.grant passed) (read_checked k h.slots) refl refl
  where
    go : (c d : Check) → start_checked h.board h.grant passed ≡ c → read_checked k h.slots ≡ d → Same b k h
    go (Err r) d l e = both-refused b k h r r (start-refused h.board h.grant _ l) (start-refused h.board h.grant _ l)
    go (Ok u) (Err r) l e = unread b k h r l e
    go (Ok u) (Ok v) l e = read b k h f sb l e

pub slot_run_answers : SlotRunAnswers
unfolding decided
slot_run_answers b k h a = ap (λ c. of_result (resumed b k h c).answer) (slot_accepted_passes k h a)

-- ---- slot runs, one after the other

-- slot k holds s: a run of it leaves the manual's steps there
slot-goes : (b k : ℕ) (h : Bench) (s : State) → SlotHolds k s h.slots → Runnable (masked h.grant s h.board)
    → resume_entry b k h ≡ outcome (Ok (retired b (masked h.grant s h.board))) (bench_left k (ran b (masked h.grant s h.board)) h)
unfolding decided
slot-goes b k h s p g =
    let e = sym (read_held k s h.slots p g.0.0 g.0.1) in
    let c : resume_checked k h ≡ passed = start_passes h.board h.grant _ g.1.1 g.2 ∙ (passed_was k h.slots e refl).0 in
    ap (resumed b k h) c
    ∙ ap (λ q. outcome (Ok (retired b (masked h.grant q h.board))) (bench_left k (ran b (masked h.grant q h.board)) h)) (sym (state_was k h.slots e refl))

-- the bench h has the world v, in slot k and on its board, and n were answered where m should be
abbrev Holds : ℕ → Bench → World → ℕ → ℕ → Type 0
Holds k h v n m = (of_result (read_entry k h.slots).answer ≡ given v.st) × (h.board ≡ v.board) × (n ≡ m)

moved : (k : ℕ) {p q : Bench} {v u : World} {a b c d : ℕ} → p ≡ q → v ≡ u → a ≡ b → d ≡ c → Holds k q u b c → Holds k p v a d
moved k e f g h i = rw (e, f, g, h) i

slot_ends : (k : ℕ) (bs : List ℕ) (h : Bench) (s : State) → SlotHolds k s h.slots → Runnable (masked h.grant s h.board)
    → Holds k (slot_runs k bs h) (ran (added bs) (masked h.grant s h.board)) (slot_answers k bs h) (retired (added bs) (masked h.grant s h.board))
unfolding slot_runs slot_answers added ran retired
slot_ends k [] h s p g = (ap (λ (o : Outcome _ _). of_result o.answer) (read_held k s h.slots p g.0.0 g.0.1), refl, refl)
slot_ends k (b ∷ bs) h s p g =
    let w : World = masked h.grant s h.board in
    let v : World = ran b w in
    let g' : Runnable v = runnable_ran b w g in
    let e = slot-goes b k h s p g in
    let left : Bench = bench_left k v h in
    let u : World = masked h.grant v.st v.board in
    let same : u ≡ v = ran-onward b w in
    let i = slot_ends k bs left v.st (holds_set k v.st h.slots g'.0.0.x_length p.there) (subst Runnable (sym same) g') in
    moved k (ap (λ o. slot_runs k bs o.lent) e) (ran-add b (added bs) w ∙ ap (ran (added bs)) (sym same))
    (ap (λ o. answered (of_result o.answer) + slot_answers k bs o.lent) e)
    (retired-add b (added bs) w)
    (i.0, i.1, ap (λ n. retired b w + n) (i.2 ∙ ap (retired (added bs)) same))

pub slot_runs_add_up : SlotRunsAddUp
slot_runs_add_up k bs w slots z a t =
    let g : Runnable w = passes_runnable w z (accepted_passes w a) in
    rw (write_passes k w.st slots t g.0.1) (slot_ends k bs (bench_left k w (shared_bench w.grant w.board slots)) w.st (holds_set k w.st slots z.state_fits.x_length t) g)

-- ---- a slot as it was

rests : (b : ℕ) (w : World) → (b ≡ 0) ⊎ (paused w ≡ false) → (ran b w ≡ w) × (retired b w ≡ 0)
rests b w (inl e) = rw e (no_budget w)
rests b w (inr e) = let s = stays_stopped b w e in (s.1, s.2)

pub slots_stay : SlotsStay
unfolding decided
slots_stay b k h sb a q =
    let c = slot_accepted_passes k h a in
    let s = rests b (slot_world k h) q in
    let r : ReadsWell k h.slots = reads_well k h.slots (start_accepted h.board h.grant _ c).2 in
    ap (resumed b k h) c
    ∙ ap₂ (λ n v. outcome (Ok n) (bench_left k v h)) s.1 s.0
    ∙ ap (λ bytes. outcome (Ok 0) (bench_on h h.board (slot_set k bytes h.slots))) (same_record k h.slots sb r)
    ∙ ap (λ slots. outcome (Ok 0) (bench_on h h.board slots)) (slot_same k h.slots)

-- ---- one slot

pub record_of_state : RecordOfState
record_of_state r b l h = write_back r l b (go (eqb (load 3 137 r) 0) refl)
  where
    go : (t : Bool) → eqb (load 3 137 r) 0 ≡ t → load 3 137 r ≡ 0
    go true e = eqb-true _ _ e
    go false e = absurd (h (inr (eqb-false _ _ e)))

pub state_of_record : StateOfRecord
state_of_record s f h =
    let r : List ℕ = record_of s in
    let l = length_record s f.x_length in
    ap (λ o. of_result o.answer) (read_held 0 s r (record { there = one_slot_there r l; record_held = one_slot_at r l }) f (go (well_formed s) refl))
  where
    go : (t : Bool) → well_formed s ≡ t → well_formed s ≡ true
    go true e = e
    go false e = absurd (h ((malformed s).0 e))

sound_not_malformed : (r : List ℕ) → record_checked r ≡ passed → RecordMalformed r → ⊥
sound_not_malformed r e m =
    let q = form_passed (eqb (load 3 137 r) 0) (state_of r) e in
    ⊎_elim (λ b. omega (arith, ap flag (sym q.1 ∙ (malformed (state_of r)).1 b))) (λ f. f (eqb-true _ _ q.0)) m

pub no_state_of_record : NoStateOfRecord
unfolding decided
no_state_of_record r l h = rw (one_slot_there r l, one_slot_at r l) (go (record_checked r) refl)
  where
    go : (c : Check) → record_checked r ≡ c
        → ((n : ℕ) × (of_result (decided c (outcome (Ok (state_of r)) (tt {0})) Err (tt {0})).answer ≡ refused_with n))
        × Malformed (state_in (decided c (outcome (Ok (state_of r)) (tt {0})) Err (tt {0})).answer)
    go (Ok u) e = absurd (sound_not_malformed r e h)
    go (Err x) e = ((number_of x, refl), inr (inl (lit< tt)))

pub old_records_load : OldRecordsLoad
unfolding decided
old_records_load k slots t old =
    let r : List ℕ = slot_at k slots in
    let e = old_record r (slot-length k slots t) old.pc_even (omega (arith, old.stop_known)) old.rest_zero in
    let passes : read_checked k slots ≡ passed = rw (t, e.0) in
    (λ m. sound_not_malformed r e.0 m, ap (λ c. of_result (decided c (outcome (Ok (state_of r)) tt) Err tt).answer) passes ∙ ap given e.1)

pub slot_stays_formed : SlotStaysFormed
unfolding decided
slot_stays_formed b k h f sb a m =
    let c = slot_accepted_passes k h a in
    let l = start_accepted h.board h.grant _ c in
    let r : ReadsWell k h.slots = reads_well k h.slots l.2 in
    let w : World = slot_world k h in
    let g : Runnable w = ((bytes_fit (slot_at k h.slots) (slot-bytes k h.slots sb), r.formed), (f, l.0), l.1) in
    let v : Runnable (ran b w) = runnable_ran b w g in
    let s : State = (ran b w).st in
    let held : slot_at k (resume_entry b k h).lent.slots ≡ record_of s =
    ap (λ d. slot_at k (resumed b k h d).lent.slots) c ∙ slot_set_at k (record_of s) h.slots (length_record s v.0.0.x_length) (there-fits k h.slots r.there) in
    sound_not_malformed (record_of s) (record_sound s v.0.0 v.0.1) (subst RecordMalformed held m)

pub writes_its_slot : WritesItsSlot
unfolding decided
writes_its_slot k s slots f = go (write_checked k s slots) refl
  where
    wrote : Check → Outcome Check (List ℕ)
    wrote c = decided c (outcome passed (slot_set k (record_of s) slots)) Err slots

    go : (c : Check) → write_checked k s slots ≡ c → of_result (wrote c).answer ≡ given tt
        → (take (144 * k) (wrote c).lent ≡ take (144 * k) slots)
        × (slot_at k (wrote c).lent ≡ record_of s)
        × (drop (144 * k + 144) (wrote c).lent ≡ drop (144 * k + 144) slots)
    go (Ok u) h e =
        let i = there-fits k slots (both_passed (slot_there k slots) R.Slot (state_checked s) h).0 in
        let l = length_record s f.x_length in
        (take-before k (record_of s) slots l i, slot_set_at k (record_of s) slots l i, drop-after k (record_of s) slots l i)
    go (Err r) h e = absurd (apart (sym e))
