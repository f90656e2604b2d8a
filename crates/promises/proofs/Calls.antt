-- A call returns 0 where its entry's tests pass and else the refusal's number, which is never 0; one record is a buffer of one slot, so that the slot's row cannot hold.
use mathlib.Core.Path.{◌≡◌, refl, sym, ap, subst, ◌∙◌}
use mathlib.Core.Bool.{Bool, true, false}
use mathlib.Core.List.{List, append-nil}
use mathlib.Core.Logic.{inl, inr, ⊎_elim}
use Prim.Native.Nat.{ℕ, ◌+◌, ◌*◌, ◌^◌}
use native.Mathlib.Omega.{arith}
use lib.ListN.{length, take, drop, drop_of_length-le}
use lib.Dec.{eqb}
use borrow.Author.Tests.{eqb-true, eqb-false}
use Rattle.answers.specs.Answer.{Answer, given, refused_with, refused, of_result}
use Rattle.answers.specs.Checks.{word_told, Check, passed}
use Rattle.answers.specs.Order.{refusal}
use Rattle.answers.specs.Outcomes.{Outcome, outcome, decided}
use Rattle.answers.specs.Refusals.{number_of, word_of}
use Rattle.answers.specs.Replies.{told, placed, called_telling}
use Rattle.answers.proofs.Numbers.{refusal-numbered}
use Rattle.answers.proofs.Order.{RefusedBy, Says, apart, same_number, same-value, then_row}
use Rattle.answers.proofs.Checks.{both_passed}
use Rattle.answers.specs.declared.Refusal.{Refusal}
use Rattle.answers.specs.declared.Refusal.TheVariants as R
use Rattle.word.specs.Bounds.{AllBelow}
use Rattle.octets.specs.Bytes.{load}
use Rattle.state.specs.declared.State.{State}
use Rattle.state.specs.States.{well_formed, state_checked}
use Rattle.state.proofs.Laws.{malformed, form_passes, form_passed}
use Rattle.boards.specs.Boards.{Board, start_checked}
use Rattle.engine.specs.Steps.{World, masked, ran, retired}
use Rattle.machine.specs.declared.Ran.{Ran}
use Rattle.machine.specs.Entries.{run_given, of_ran}
use Rattle.records.specs.Records.{record_of, state_of, record_checked}
use Rattle.records.proofs.Records.{write_back}
use Rattle.slots.specs.Slots.{slot_there, slot_at, slot_set, read_checked}
use Rattle.slots.proofs.Slots.{there-fits, no_slot, slot_set_at, take-before, drop-after, one_slot_there, one_slot_at}
use Rattle.resume.specs.Resuming.{Bench, bench_on, bench_left, resume_checked, resume_given}
use Rattle.c_slots.specs.Slots.{lent_checked}
use Rattle.run_calls.specs.Runs.{resume_call}
use Rattle.promises.specs.Refusals.{NoSlot, RecordMalformed, LowestBroken, TellsLowest, start_rows, record_rows}
use Rattle.promises.specs.Calls.{TellsIn, WordTold, Returns, CallsRefuse, WriteCallRefuses, lent_world, RunCallIsRun}
use Rattle.promises.proofs.Refusals.{start-rows, record_row, resume_rows_lem, start_tells, quiet_read}
use Rattle.std.specs.Prelude.{Err, Ok, Result}

-- ---- the word's place

-- a resumed run, by its check
module _ (b k : ℕ) (h : Bench) (place word : ℕ) where
  abbrev resumed : Check → Outcome (Result ℕ Refusal) Bench
  resumed c = decided c (resume_given b k h) Err h

  resume_tells : (c : Check) → ((n : ℕ) → RefusedBy c n → TellsLowest h.board n (word_told c))
      → TellsIn h.board (told (of_result (resumed c).answer) place).answer word (placed (word_told (resumed c).answer) word)
      (((told (of_result (resumed c).answer) place).lent ≡ place) × ((resumed c).lent ≡ h))
  unfolding decided
  resume_tells (Ok u) t = inr (λ e. omega arith, refl)
  resume_tells (Err r) t = go (eqb (number_of r) 3) refl
    where
      go : (q : Bool) → eqb (number_of r) 3 ≡ q → TellsIn h.board (number_of r) word (placed (word_of r) word) ((place ≡ place) × (h ≡ h))
      go true e =
          let three = eqb-true _ _ e in
          let s = (t (number_of r) refl).0 three in
          inl (three, subst (LowestBroken h.board) (sym (ap (λ o. placed o word) s.1)) s.2, (refl, refl))
      go false e = let other = eqb-false _ _ e in inr (other, ap (λ o. placed o word) ((t (number_of r) refl).1 other))

  told_by_resume : TellsIn h.board (resume_call b k h place word).answer word (resume_call b k h place word).lent.0.1
      (((resume_call b k h place word).lent.0.0 ≡ place) × ((resume_call b k h place word).lent.1 ≡ h))
  told_by_resume = resume_tells (resume_checked k h) (start_tells h.board h.grant (read_checked k h.slots) (quiet_read k h.slots))

pub word_told_lem : WordTold
word_told_lem = (
  told_by_resume,
  λ b h place word. told_by_resume b 0 h place word,
  λ h word. ⊎_elim (λ t. inl (t.0, t.1, t.2.1)) inr (told_by_resume 1 0 h 0 word),
)

-- ---- the number returned

module _ {A B C : Type 0} (read : A → Answer C) (refusal : Refusal → A) (reads : (r : Refusal) → read (refusal r) ≡ refused r) where
  -- by its check, what an entry as a call returns, and that refused it leaves its place and what was lent
  returns : (c : Check) (o : Outcome A B) (before : B) (place : C) {v : C} {rows : ℕ → Type 0} → read o.answer ≡ given v → Says c rows
      → Returns (told (read (decided c o refusal before).answer) place).answer rows
  unfolding decided
  returns (Ok u) o before place e q n = (λ t. absurd (t.1 (sym t.0 ∙ ap (λ a. (told a place).answer) e)), λ t. absurd ((q n).1 t))
  returns (Err r) o before place e q n =
      let number : (told (read (refusal r)) place).answer ≡ number_of r = ap (λ a. (told a place).answer) (reads r) in
      (λ t. (q n).0 (sym t.0 ∙ number), λ t. (number ∙ sym ((q n).1 t), λ z. omega (arith, (q n).1 t, (refusal-numbered r).1)))

  leaves : (c : Check) (o : Outcome A B) (before : B) (place : C) {v : C} → read o.answer ≡ given v
      → ((told (read (decided c o refusal before).answer) place).answer ≡ 0 → ⊥)
      → ((told (read (decided c o refusal before).answer) place).lent ≡ place) × ((decided c o refusal before).lent ≡ before)
  unfolding decided
  leaves (Ok u) o before place e f = absurd (f (ap (λ a. (told a place).answer) e))
  leaves (Err r) o before place e f = (ap (λ a. (told a place).lent) (reads r), refl)

-- one record is a slot that is there
one_read : (r : List ℕ) → length r ≡ 144 → read_checked 0 r ≡ record_checked r
one_read r l = rw (one_slot_there r l, one_slot_at r l)

lent_rows : (h : Bench) → length h.slots ≡ 144 → Says (resume_checked 0 h) (start_rows h.board h.grant (record_rows h.slots))
lent_rows h l = start-rows h.board h.grant (read_checked 0 h.slots) (rw (one_read h.slots l) (record_row h.slots))

pub calls_refuse : CallsRefuse
calls_refuse = (
  λ b h place word l. (
    returns of_result Err (λ r. refl) (resume_checked 0 h) (resume_given b 0 h) h place refl (lent_rows h l),
    leaves of_result Err (λ r. refl) (resume_checked 0 h) (resume_given b 0 h) h place refl,
  ),
  λ h word l. (
    returns of_result Err (λ r. refl) (resume_checked 0 h) (resume_given 1 0 h) h 0 refl (lent_rows h l),
    λ f. (leaves of_result Err (λ r. refl) (resume_checked 0 h) (resume_given 1 0 h) h 0 refl f).1,
  ),
  λ b k h place word. (
    returns of_result Err (λ r. refl) (resume_checked k h) (resume_given b k h) h place refl (resume_rows_lem k h),
    leaves of_result Err (λ r. refl) (resume_checked k h) (resume_given b k h) h place refl,
  ),
)

module _ (state : List ℕ) (k : ℕ) (slots : List ℕ) (l : length state ≡ 144) where
  write_call_rows : Says (lent_checked state k slots) (refusal 4 (NoSlot k slots) (record_rows state))
  write_call_rows = then_row (slot_there k slots) R.Slot (read_checked 0 state) (no_slot k slots) (rw (one_read state l) (record_row state))

  -- these slots have the record in slot k, and the others as they were
  abbrev Held : List ℕ → Type 0
  Held after = (take (144 * k) after ≡ take (144 * k) slots) × (slot_at k after ≡ state) × (drop (144 * k + 144) after ≡ drop (144 * k + 144) slots)

  abbrev wrote : Outcome Check (List ℕ)
  wrote = outcome passed (slot_set k (record_of (state_of (slot_at 0 state))) slots)

  write_call_holds : AllBelow (2 ^ 8) state → (c : Check) → lent_checked state k slots ≡ c → (told (of_result (decided c wrote Err slots).answer) tt).answer ≡ 0
      → Held (decided c wrote Err slots).lent
  unfolding decided
  write_call_holds bytes (Ok u) e z =
      let t = both_passed (slot_there k slots) R.Slot _ e in
      let fits = there-fits k slots t.0 in
      let q = form_passed (eqb (load 3 137 state) 0) (state_of state) (sym (one_read state l) ∙ t.1) in
      let same : record_of (state_of (slot_at 0 state)) ≡ state = ap (λ r. record_of (state_of r)) (one_slot_at state l) ∙ write_back state l bytes (eqb-true _ _ q.0) in
      subst (λ r. Held (slot_set k r slots)) (sym same) (take-before k state slots l fits, slot_set_at k state slots l fits, drop-after k state slots l fits)
  write_call_holds bytes (Err r) e z = absurd (omega (arith, z, (refusal-numbered r).1))

pub write_call_refuses : WriteCallRefuses
write_call_refuses state k slots l bytes = (
  returns of_result Err (λ r. refl) (lent_checked state k slots) (wrote state k slots l) slots tt refl (write_call_rows state k slots l),
  λ f. (leaves of_result Err (λ r. refl) (lent_checked state k slots) (wrote state k slots l) slots tt refl f).1,
  write_call_holds state k slots l bytes (lent_checked state k slots) refl,
)

-- ---- the call and the entry

-- a record that is not malformed passes, and so does its state
record_passes : (r : List ℕ) → (RecordMalformed r → ⊥) → (record_checked r ≡ passed) × (state_checked (state_of r) ≡ passed)
record_passes r f =
    let zeros = rest (eqb (load 3 137 r) 0) refl in
    let formed = form (well_formed (state_of r)) refl in
    (form_passes (eqb (load 3 137 r) 0) (state_of r) zeros formed, form_passes true (state_of r) refl formed)
  where
    rest : (b : Bool) → eqb (load 3 137 r) 0 ≡ b → b ≡ true
    rest true e = refl
    rest false e = absurd (f (inr (eqb-false _ _ e)))

    form : (b : Bool) → well_formed (state_of r) ≡ b → b ≡ true
    form true e = refl
    form false e = absurd (f (inl ((malformed (state_of r)).0 e)))

-- a record in the place of the only one
one_set : (bytes r : List ℕ) → length r ≡ 144 → slot_set 0 bytes r ≡ bytes
one_set bytes r l = rw (drop_of_length-le r {i = 144} (omega (arith, l))) (append-nil bytes)

module _ (b : ℕ) (h : Bench) (place word : ℕ) (l : length h.slots ≡ 144) where
  abbrev entry : Check → Outcome (Result Ran Refusal) Board
  entry c = decided c (run_given b (lent_world h)) Err h.board

  abbrev call : Check → Outcome ℕ ((ℕ × ℕ) × Bench)
  call c = called_telling of_result word_told place word (resumed b 0 h place word c)

  -- one check decides both
  both_run : (c : Check)
      → ((s : State) (n : ℕ) → of_ran (entry c).answer ≡ given (s, n) → call c ≡ outcome 0 ((n, word), bench_on h (entry c).lent (record_of s)))
      × ((n : ℕ) → of_ran (entry c).answer ≡ refused_with n → (call c).answer ≡ n)
  unfolding decided
  both_run (Ok u) =
      let w : World = lent_world h in (
        λ s n e.
            ap (λ r. outcome 0 ((retired b (masked h.grant (state_of r) h.board), word), bench_left 0 (ran b (masked h.grant (state_of r) h.board)) h)) (one_slot_at h.slots l)
            ∙ ap (λ r. outcome 0 ((retired b w, word), bench_on h (ran b w).board r)) (one_set (record_of (ran b w).st) h.slots l)
            ∙ ap (λ (p : State × ℕ). outcome 0 ((p.1, word), bench_on h (ran b w).board (record_of p.0))) (same-value e),
        λ n e. absurd (apart e),
      )
  both_run (Err r) = (λ s n e. absurd (apart (sym e)), λ n e. same_number e)

pub run_call_is_run : RunCallIsRun
run_call_is_run b h place word l f =
    let p = record_passes h.slots f in
    rw (one_read h.slots l ∙ p.0, p.1) (both_run b h place word l (start_checked h.board h.grant passed))
