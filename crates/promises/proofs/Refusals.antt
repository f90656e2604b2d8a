-- Each entry answers by its chain of tests, and a test that fails is its row of the table; the laws of an entry's shape do the rest.
use mathlib.Core.Path.{◌≡◌, refl, sym, ap, subst, ◌∙◌}
use mathlib.Core.Bool.{Bool, true, false, not, ◌&&◌, ◌||◌, and-eq-true_iff}
use mathlib.Core.List.{List}
use mathlib.Core.Logic.{◌↔◌, ◌⊎◌, inl, inr, ⊎_elim}
use Prim.Native.Nat.{ℕ, suc, ◌%◌}
use native.Mathlib.Omega.{arith}
use lib.ListN.{length}
use lib.Dec.{eqb, leb}
use borrow.Author.Tests.{leb-false, lt-leb, eqb-true, eqb-false, eq-eqb, ne_eqb, not-true}
use Rattle.answers.specs.Checks.{unless, word_told, Check, passed}
use Rattle.answers.specs.Order.{refusal, no_refusal}
use Rattle.answers.specs.Refusals.{number_of, word_of}
use Rattle.answers.specs.Replies.{placed}
use Rattle.answers.specs.Stops.{last_stop}
use Rattle.answers.proofs.Numbers.{three_tells}
use Rattle.answers.proofs.Checks.{both_passed}
use Rattle.answers.proofs.Order.{RefusedBy, Says, no_rows, then_row, all_pass}
use Rattle.answers.proofs.Entries.{exactly, accepts, keeps_lent, tells_as, silent, silent_but_word}
use Rattle.answers.specs.declared.Refusal.{Refusal}
use Rattle.answers.specs.declared.Refusal.TheVariants as R
use Rattle.word.specs.Bits.{flag}
use Rattle.word.proofs.Bools.{and_fails}
use Rattle.octets.specs.Bytes.{load}
use Rattle.fuses.specs.Row.{value_at, mark_at, rest_at, keeps_rules, all_keep, lowest_bad}
use Rattle.fuses.proofs.Rows.{record_breaks, lowest_breaks, all_below, all_keep_lem}
use Rattle.state.specs.declared.State.{State}
use Rattle.state.specs.States.{address_allowed, form_checked, state_checked}
use Rattle.state.proofs.Laws.{odd_pc, no_stop, stray_address, form_passes, form_passed, formed_before}
use Rattle.boards.specs.Boards.{Board, disjoint, start_checked, longest_memory}
use Rattle.boards.specs.declared.Grant.{Grant}
use Rattle.boards.proofs.Boards.{start_accepted, start_passes}
use Rattle.boards.proofs.Sharing.{shares}
use Rattle.engine.specs.Steps.{World, checked}
use Rattle.machine.specs.Entries.{of_ran}
use Rattle.records.specs.Records.{state_of, record_checked}
use Rattle.slots.specs.Slots.{slot_there, slot_at, write_checked, read_checked}
use Rattle.slots.proofs.Slots.{slot_is, no_slot}
use Rattle.resume.specs.Resuming.{Bench, resume_checked}
use Rattle.promises.specs.Refusals.{OddPc, NoStop, Shared, start_rows, state_rows, record_rows, machine_rows, write_rows, read_rows, resume_rows, StepRefuses, RunRefuses, WriteRefuses, ReadRefuses, ResumeRefuses, StepKeeps, RunKeeps, WriteKeeps, ResumeKeeps, TellsLowest, LowestWord, OnlyThreeTells, NoOtherFact, RowRecordBefore, RulesAsBefore, BoardBefore, StateBefore, SlotBefore, RecordBefore, AcceptedAsBefore}
use Rattle.promises.specs.Steps.{Accepted}
use Rattle.promises.specs.Cuts.{SlotAccepted}
use Rattle.answers.specs.Answer.{of_result}
use Rattle.std.specs.Prelude.{Err, None, Option, Some}

-- ---- the chains of tests, row by row

pub start-rows : (b : Board) (m : Grant) (rest : Check) {later : ℕ → Type 0} → Says rest later → Says (start_checked b m rest) (start_rows b m later)
start-rows b m rest q =
    then_row (leb (length b.mem) longest_memory) R.MemoryTooLong _ (leb-false _ _, lt-leb _ _)
    (then_row (eqb (length b.row) 512) R.RowLength _ (eqb-false _ _, ne_eqb _ _)
    (then_row (all_keep 64 b.row) (R.RowRecord (lowest_bad 64 b.row)) _ (record_breaks b.row)
    (then_row (disjoint m) R.MasksShare rest (shares m.own m.other) q)))

-- a state, of a record or of none
form_rows : (zeros : Bool) (s : State) {End : Type 0} → ((zeros && address_allowed s) ≡ false) ↔ End
    → Says (form_checked zeros s) (refusal 5 (OddPc s) (refusal 14 (NoStop s) (refusal 15 End no_refusal)))
form_rows zeros s e =
    then_row (eqb (s.pc % 2) 0) R.OddPc _ (odd_pc s)
    (then_row (leb s.stop last_stop) R.StopNumber _ (no_stop s) (then_row (zeros && address_allowed s) R.RecordEnd passed e no_rows))

state-row : (s : State) → Says (state_checked s) (state_rows s)
state-row s = form_rows true s (stray_address s)

pub record_row : (r : List ℕ) → Says (record_checked r) (record_rows r)
record_row r = form_rows (eqb (load 3 137 r) 0) (state_of r) (and_fails (eqb (load 3 137 r) 0) (address_allowed (state_of r)) (eqb-false _ _, ne_eqb _ _) (stray_address (state_of r)))

machine_rows_lem : (w : World) → Says (checked w) (machine_rows w)
machine_rows_lem w = start-rows w.board w.grant (state_checked w.st) (state-row w.st)

write_rows_lem : (k : ℕ) (s : State) (slots : List ℕ) → Says (write_checked k s slots) (write_rows k s slots)
write_rows_lem k s slots = then_row (slot_there k slots) R.Slot (state_checked s) (no_slot k slots) (state-row s)

read-rows : (k : ℕ) (slots : List ℕ) → Says (read_checked k slots) (read_rows k slots)
read-rows k slots = then_row (slot_there k slots) R.Slot _ (no_slot k slots) (record_row (slot_at k slots))

pub resume_rows_lem : (k : ℕ) (h : Bench) → Says (resume_checked k h) (resume_rows k h)
resume_rows_lem k h = start-rows h.board h.grant (read_checked k h.slots) (read-rows k h.slots)

-- ---- where no row holds every test passes

pub accepted_passes : (w : World) → Accepted w → checked w ≡ passed
accepted_passes w a = all_pass (checked w) (machine_rows_lem w) a

pub slot_accepted_passes : (k : ℕ) (h : Bench) → SlotAccepted k h → resume_checked k h ≡ passed
slot_accepted_passes k h a = all_pass (resume_checked k h) (resume_rows_lem k h) a

-- ---- exactly if

pub step_refuses : StepRefuses
step_refuses w = exactly of_result Err (λ r. refl) (checked w) _ _ refl (machine_rows_lem w)

pub run_refuses : RunRefuses
run_refuses b w = exactly of_ran Err (λ r. refl) (checked w) _ _ refl (machine_rows_lem w)

pub write_refuses : WriteRefuses
write_refuses k s slots = exactly of_result Err (λ r. refl) (write_checked k s slots) _ _ refl (write_rows_lem k s slots)

pub read_refuses : ReadRefuses
read_refuses k slots = exactly of_result Err (λ r. refl) (read_checked k slots) _ _ refl (read-rows k slots)

pub resume_refuses : ResumeRefuses
resume_refuses b k h = exactly of_result Err (λ r. refl) (resume_checked k h) _ _ refl (resume_rows_lem k h)

-- ---- every lent byte kept

pub step_keeps : StepKeeps
step_keeps w = keeps_lent of_result Err (λ r. refl) (checked w) _ _ refl

pub run_keeps : RunKeeps
run_keeps b w = keeps_lent of_ran Err (λ r. refl) (checked w) _ _ refl

pub write_keeps : WriteKeeps
write_keeps k s slots = keeps_lent of_result Err (λ r. refl) (write_checked k s slots) _ _ refl

pub resume_keeps : ResumeKeeps
resume_keeps b k h = keeps_lent of_result Err (λ r. refl) (resume_checked k h) _ _ refl

-- ---- the word that 3 tells

-- tests that refuse with another number, and tell no word
abbrev Quiet : Check → Type 0
Quiet c = (n : ℕ) → RefusedBy c n → (n ≡ 3 → ⊥) × (word_told c ≡ None)

quiet_row : (b : Bool) (r : Refusal) (rest : Check) → (number_of r ≡ 3 → ⊥) → word_of r ≡ None → Quiet rest → Quiet (unless b r rest)
quiet_row true r rest f w q n h = q n h
quiet_row false r rest f w q n h = (λ t. f (sym h ∙ t), w)

quiet_form : (zeros : Bool) (s : State) → Quiet (form_checked zeros s)
quiet_form zeros s =
    quiet_row (eqb (s.pc % 2) 0) R.OddPc _ (λ e. omega arith) refl
    (quiet_row (leb s.stop last_stop) R.StopNumber _ (λ e. omega arith) refl
    (quiet_row (zeros && address_allowed s) R.RecordEnd passed (λ e. omega arith) refl (λ n h. absurd h)))

quiet_write : (k : ℕ) (s : State) (slots : List ℕ) → Quiet (write_checked k s slots)
quiet_write k s slots = quiet_row (slot_there k slots) R.Slot _ (λ e. omega arith) refl (quiet_form true s)

pub quiet_read : (k : ℕ) (slots : List ℕ) → Quiet (read_checked k slots)
quiet_read k slots =
    quiet_row (slot_there k slots) R.Slot _ (λ e. omega arith) refl (quiet_form (eqb (load 3 137 (slot_at k slots)) 0) (state_of (slot_at k slots)))

-- a board is refused with 3 for its lowest word
pub start_tells : (b : Board) (m : Grant) (rest : Check) → Quiet rest → (n : ℕ) → RefusedBy (start_checked b m rest) n → TellsLowest b n (word_told (start_checked b m rest))
start_tells b m later quiet n = go (leb (length b.mem) longest_memory) (eqb (length b.row) 512) (all_keep 64 b.row) refl
  where
    rest : Check
    rest = unless (disjoint m) R.MasksShare later

    other : (c : Check) → (n ≡ 3 → ⊥) × (word_told c ≡ None) → TellsLowest b n (word_told c)
    other c q = (λ t. absurd (q.0 t), λ t. q.1)

    go : (m l k : Bool) → all_keep 64 b.row ≡ k → RefusedBy (unless m R.MemoryTooLong (unless l R.RowLength (unless k (R.RowRecord (lowest_bad 64 b.row)) rest))) n
        → TellsLowest b n (word_told (unless m R.MemoryTooLong (unless l R.RowLength (unless k (R.RowRecord (lowest_bad 64 b.row)) rest))))
    go false l k a q = other (Err R.MemoryTooLong) (λ t. omega arith, refl)
    go true false k a q = other (Err R.RowLength) (λ t. omega arith, refl)
    go true true false a q =
        let s = lowest_breaks 64 b.row a in
        (λ t. (lowest_bad 64 b.row, refl, (s.within, s.breaks, λ j h. all_below (lowest_bad 64 b.row) j b.row s.below h)), λ f. absurd (f q))
    go true true true a q = other rest (quiet_row (disjoint m) R.MasksShare later (λ e. omega arith) refl quiet n q)

pub lowest_word : LowestWord
lowest_word = (
  λ w n e.
      let q = tells_as of_result Err (λ r. refl) word_told (λ r. refl) (checked w) _ _ n refl e in
      subst (TellsLowest w.board n) (sym q.1) (start_tells w.board w.grant _ (quiet_form true w.st) n q.0),
  λ b w n e.
      let q = tells_as of_ran Err (λ r. refl) word_told (λ r. refl) (checked w) _ _ n refl e in
      subst (TellsLowest w.board n) (sym q.1) (start_tells w.board w.grant _ (quiet_form true w.st) n q.0),
  λ b k h n e.
      let q = tells_as of_result Err (λ r. refl) word_told (λ r. refl) (resume_checked k h) _ _ n refl e in
      subst (TellsLowest h.board n) (sym q.1) (start_tells h.board h.grant _ (quiet_read k h.slots) n q.0),
)

pub only_three_tells : OnlyThreeTells
only_three_tells r = (
  λ e. ⊎_elim (λ t. told (word_of r) t.1) (λ f. absurd (f.0 e)) (three_tells r),
  λ s.
      let mine : (before : ℕ) → placed (word_of r) before ≡ s.0 = λ before. ap (λ o. placed o before) s.1 in
      ⊎_elim (λ t. t.0) (λ f. absurd (omega (arith, mine (suc s.0), ap (λ o. placed o (suc s.0)) f.1))) (three_tells r),
)
  where
    told : (o : Option ℕ) → ((before : ℕ) → placed o before ≡ placed o 0) → (k : ℕ) × (o ≡ Some k)
    told None f = absurd (omega (arith, f 1))
    told (Some k) f = (k, refl)

-- ---- what is accepted

iff_then : {P Q R : Type 0} → P ↔ Q → Q ↔ R → P ↔ R
iff_then f g = (λ p. g.0 (f.0 p), λ r. f.1 (g.1 r))

one_holds : (a b : Bool) → (a || b) ≡ true → (a ≡ true) ⊎ (b ≡ true)
one_holds true b e = inl refl
one_holds false b e = inr e

pub rules_as_before : RulesAsBefore
rules_as_before k row = (there, back)
  where
    there : keeps_rules k row ≡ true → RowRecordBefore k row
    there e =
        let p = (and-eq-true_iff (eqb (rest_at k row) 0) _).0 e in (
          eqb-true _ _ p.0,
          ⊎_elim
              (λ t. let q = (and-eq-true_iff (eqb (mark_at k row) 1) _).0 t in inl (eqb-true _ _ q.0, eqb-false _ _ (not-true _ q.1)))
              (λ t. let q = (and-eq-true_iff (eqb (mark_at k row) 0) _).0 t in inr (eqb-true _ _ q.0, eqb-true _ _ q.1))
              (one_holds (eqb (mark_at k row) 1 && not (eqb (value_at k row) 0)) _ p.1),
        )

    back : RowRecordBefore k row → keeps_rules k row ≡ true
    back h = rw h.0 (⊎_elim (λ t. rw (t.0, ne_eqb (value_at k row) 0 t.1)) (λ t. rw (t.0, t.1)) h.1)

-- masks that share no bit
apart_masks : (m : Grant) → (disjoint m ≡ true) ↔ (Shared m → ⊥)
apart_masks m = (λ e s. let f = (shares m.own m.other).1 s in omega (arith, ap flag (sym e ∙ f)), λ f. go (disjoint m) refl f)
  where
    go : (d : Bool) → disjoint m ≡ d → (Shared m → ⊥) → d ≡ true
    go true e f = refl
    go false e f = absurd (f ((shares m.own m.other).0 e))

start-before : (b : Board) (m : Grant) (rest : Check) {After : Type 0} → (rest ≡ passed) ↔ After
    → (start_checked b m rest ≡ passed) ↔ (BoardBefore b × (Shared m → ⊥) × After)
start-before b m rest q = (
  λ e.
      let l = start_accepted b m rest e in
      ((l.0.short, l.0.row.0, λ k h. (rules_as_before k b.row).0 (all_below 64 k b.row l.0.row.1 h)), (apart_masks m).0 l.1, q.0 l.2),
  λ h.
      start_passes b m rest (record { short = h.0.0; row = (h.0.1, all_keep_lem 64 b.row (λ k l. (rules_as_before k b.row).1 (h.0.2 k l))) }) ((apart_masks m).1 h.1)
      ∙ q.1 h.2,
)

state-before : (s : State) → (state_checked s ≡ passed) ↔ StateBefore s
state-before s = iff_then (λ e. (form_passed true s e).1, λ w. form_passes true s refl w) (formed_before s)

record_before : (r : List ℕ) → (record_checked r ≡ passed) ↔ RecordBefore r
record_before r = (
  λ e. let q = form_passed (eqb (load 3 137 r) 0) (state_of r) e in (eqb-true _ _ q.0, (formed_before (state_of r)).0 q.1),
  λ h. form_passes (eqb (load 3 137 r) 0) (state_of r) (eq-eqb _ _ h.0) ((formed_before (state_of r)).1 h.1),
)

slot-before : (k : ℕ) (slots : List ℕ) (rest : Check) {After : Type 0} → (rest ≡ passed) ↔ After
    → (unless (slot_there k slots) R.Slot rest ≡ passed) ↔ (SlotBefore k slots × After)
slot-before k slots rest q = (
  λ e. let t = both_passed (slot_there k slots) R.Slot rest e in ((slot_is k slots).0 t.0, q.0 t.1),
  λ h. rw ((slot_is k slots).1 h.0) (q.1 h.1),
)

read-before : (k : ℕ) (slots : List ℕ) → (read_checked k slots ≡ passed) ↔ (SlotBefore k slots × RecordBefore (slot_at k slots))
read-before k slots = slot-before k slots _ (record_before (slot_at k slots))

pub accepted_as_before : AcceptedAsBefore
accepted_as_before = (
  λ w. iff_then (accepts of_result Err (λ r. refl) (checked w) _ _ refl) (start-before w.board w.grant _ (state-before w.st)),
  λ b w. iff_then (accepts of_ran Err (λ r. refl) (checked w) _ _ refl) (start-before w.board w.grant _ (state-before w.st)),
  λ k s slots. iff_then (accepts of_result Err (λ r. refl) (write_checked k s slots) _ _ refl) (slot-before k slots _ (state-before s)),
  λ k slots. iff_then (accepts of_result Err (λ r. refl) (read_checked k slots) _ _ refl) (read-before k slots),
  λ b k h. iff_then (accepts of_result Err (λ r. refl) (resume_checked k h) _ _ refl) (start-before h.board h.grant _ (read-before k h.slots)),
)

-- ---- no other fact

pub no_other_fact : NoOtherFact
no_other_fact = (
  silent_but_word of_result Err (λ r. refl) word_told (λ r. refl) checked _ (λ w. w.board) _ (λ w. refl),
  silent_but_word of_ran Err (λ r. refl) word_told (λ r. refl) (λ i. checked i.1) _ (λ i. i.1.board) _ (λ i. refl),
  silent of_result Err (λ r. refl) (λ i. write_checked i.0 i.1 i.2) _ (λ i. i.2) _ (λ i. refl) (λ i h. (quiet_write i.0 i.1 i.2 3 h).0 refl),
  silent of_result Err (λ r. refl) (λ i. read_checked i.0 i.1) _ (λ i. tt) _ (λ i. refl) (λ i h. (quiet_read i.0 i.1 3 h).0 refl),
  silent_but_word of_result Err (λ r. refl) word_told (λ r. refl) (λ i. resume_checked i.1 i.2) _ (λ i. i.2) _ (λ i. refl),
)
