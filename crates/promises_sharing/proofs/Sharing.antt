-- Two recipes on one row: the statements, from what an act can come to (Owned), what steps leave of a row (Spared) and what they make of two rows (Alike); an entry takes its steps or leaves everything.
use mathlib.Core.Path.{◌≡◌, refl, sym, ap, ap₂, subst, ◌∙◌}
use mathlib.Core.Bool.{Bool, true, false, cond, not}
use mathlib.Core.List.{List}
use mathlib.Core.Logic.{◌↔◌, ◌⊎◌, ⊎_elim}
use Prim.Native.Nat.{ℕ, zero, suc, ◌+◌, ◌*◌, ◌/◌, ◌%◌, ◌^◌, ◌≤◌}
use native.Mathlib.Nat.{pow-succ', div-one, div-eq_of_lt, div-le_self, mul-div-mul_left}
use native.Mathlib.Omega.{arith}
use lib.ListN.{length, take, drop}
use lib.Dec.{T, T_not, eqb, eqb-zero-suc, eqb-suc-zero, eqb-suc-suc}
use lib.Pow.{pow_pos, shr-shr}
use borrow.Author.Tests.{eqb-true, eqb-false, eq-eqb}
use Rattle.answers.specs.Outcomes.{Outcome, decided}
use Rattle.answers.specs.declared.Refusal.{Refusal}
use Rattle.word.proofs.Bools.{is_true, holds}
use Rattle.word.proofs.Sweep.{at}
use Rattle.fuses.specs.Row.{Row, owns, all_words}
use Rattle.state.specs.declared.State.{State}
use Rattle.boards.specs.Boards.{Board, board, grant, alone, start_checked, longest_memory}
use Rattle.boards.specs.declared.Grant.{Grant}
use Rattle.boards.proofs.Boards.{start_accepted}
use Rattle.access.specs.Accesses.{Done, load_width, store_width}
use Rattle.execute.specs.declared.Act.{Act}
use Rattle.execute.specs.declared.Act.TheVariants.{Sets, Loads, Stores, Ends}
use Rattle.execute.specs.Execution.{performed}
use Rattle.engine.specs.Steps.{World, masked, world, asked, step_done, applied, after, paused, stepped, ran}
use Rattle.engine.proofs.Kept.{Runnable, runnable_ran}
use Rattle.engine.proofs.Laws.{masks-ran, step_stopped}
use Rattle.machine.specs.Entries.{step_given, ran_to, run_given}
use Rattle.machine.proofs.Entries.{one_step}
use Rattle.records.specs.Records.{record_of}
use Rattle.records.proofs.Records.{length_record, bytes_fit}
use Rattle.slots.specs.Slots.{slot_at, slot_set}
use Rattle.slots.proofs.Slots.{there-fits, take-before, drop-after, slot-bytes, ReadsWell, reads_well}
use Rattle.resume.specs.Resuming.{Bench, shared_bench, bench, slot_world, resume_checked, resume_given}
use Rattle.promises.specs.Refusals.{Shared, start_rows, state_rows, read_rows}
use Rattle.promises.proofs.Refusals.{step_refuses, run_refuses, resume_refuses}
use Rattle.promises.proofs.Places.{fuse_exactly}
use Rattle.promises_sharing.specs.Sharing.{Mine, Foreign, Agree, BitByBit, OneBit, AllOwned, Reaches, NotOwnedExactly, OnlyStopAdded, NoMasksNoStop, NoMasksNoRefusal, OthersKept, EntriesKeepOthers, OtherSlotsKept, Isolated, StepIsolated, RunIsolated, SlotRunIsolated}
use Rattle.promises_sharing.proofs.Agreeing.{agree_refl}
use Rattle.promises_sharing.proofs.Spared.{run_spares, decided-lent, checked-long, entry_spares}
use Rattle.promises_sharing.proofs.Alike.{Peers, Alike, run_alike}
use Rattle.promises_sharing.proofs.Owned.{There, there_below, act_owned, stops_unowned}
use Rattle.answers.specs.Checks.{Check, passed}
use Rattle.std.specs.Prelude.{Err, Ok}

-- ---- whose a word is

pub bit_by_bit : BitByBit
bit_by_bit m d h = (let z : (2 * m + d) % 2 ≡ d = omega arith in rw (div-one (2 * m + d), z), above)
  where
    above : (k : ℕ) → owns (2 * m + d) (suc k) ≡ owns m k
    above k =
        let next : suc k ≡ 1 + k = omega arith in
        let half : (2 * m + d) / 2 ≡ m = omega arith in
        ap (owns (2 * m + d)) next ∙ ap (λ n. eqb (n % 2) 1) (sym (shr-shr (2 * m + d) 1 k)) ∙ ap (λ n. owns n k) half

-- both powers halve together, to where one of them is 1
pub one_bit : OneBit
one_bit zero zero = refl
one_bit zero (suc j) = rw (div-eq_of_lt {n = 1} {m = 2 ^ suc j} (omega (arith, pow-succ' 2 j, pow_pos j)), eqb-suc-zero j)
one_bit (suc k) zero = let z : 2 ^ suc k % 2 ≡ 0 = omega (arith, pow-succ' 2 k) in rw (div-one (2 ^ suc k), z, eqb-zero-suc k)
one_bit (suc k) (suc j) = rw (pow-succ' 2 k, pow-succ' 2 j, mul-div-mul_left {m = 2} (2 ^ k) (2 ^ j) (omega arith), eqb-suc-suc j k) (one_bit k j)

-- ---- stop 11

there_reaches : (b : Board) (a : Act) (k : ℕ) → length b.mem ≤ longest_memory → There b a k ↔ Reaches a k
there_reaches b (Sets rd v pc) k l = (λ t. t, λ t. t)
there_reaches b (Loads o rd a pc) k l = fuse_exactly (load_width o) a (length b.mem) k l
there_reaches b (Stores o v a pc) k l = fuse_exactly (store_width o) a (length b.mem) k l
there_reaches b (Ends why) k l = (λ t. t, λ t. t)

pub not_owned_exactly : NotOwnedExactly
not_owned_exactly w l p =
    let e = stops_unowned w p in
    let t : (k : ℕ) → There w.board (asked w) k ↔ Reaches (asked w) k = λ k. there_reaches w.board (asked w) k l in
    (λ n. let r = e.0 n in (r.0, (t r.0).0 r.1, r.2), λ r. e.1 (r.0, (t r.0).1 r.1, r.2))

pub all_owned : AllOwned
all_owned k h = is_true (owns all_words k) (at (owns all_words) 6 0 tt k (omega arith) (omega arith))

step_unmasked : (w : World) → w.grant.own ≡ all_words → (w.st.stop ≡ 11 → ⊥) → (stepped w).st.stop ≡ 11 → ⊥
step_unmasked w e ne n = go (paused w) refl
  where
    go : (b : Bool) → paused w ≡ b → ⊥
    go true p =
        let r = (stops_unowned w p).0 n in
        holds false (sym r.2 ∙ ap (λ own. owns own r.0) e ∙ all_owned r.0 (there_below w.board (asked w) r.0 r.1))
    go false p = ne (ap (λ (v : World). v.st.stop) (sym (step_stopped w (eqb-false _ _ p))) ∙ n)

run_unmasked : (n : ℕ) (w : World) → w.grant.own ≡ all_words → (w.st.stop ≡ 11 → ⊥) → (ran n w).st.stop ≡ 11 → ⊥
unfolding ran
run_unmasked zero w e ne = ne
run_unmasked (suc n) w e ne = run_unmasked n (stepped w) ((λ j. (masks-ran 1 w j).own) ∙ e) (step_unmasked w e ne)

pub no_masks_no_stop : NoMasksNoStop
no_masks_no_stop n s b = run_unmasked n (world s b) refl

unshared : Shared alone → ⊥
unshared s = let e : 0 / 2 ^ s.0 % 2 ≡ 1 = eqb-true _ _ s.2 in omega (arith, div-le_self 0 (2 ^ s.0))

-- a row with another number
past : (k : ℕ) {Holds Later : Type 0} → T (not (eqb 16 k)) → (Holds × (16 ≡ k)) ⊎ ((Holds → ⊥) × Later) → Later
past k t r = ⊎_elim (λ h. absurd (T_not (eqb 16 k) t (holds (eqb 16 k) (eq-eqb 16 k h.1)))) (λ h. h.1) r

start_unmasked : (b : Board) (later : ℕ → Type 0) → start_rows b alone later 16 → later 16
start_unmasked b later r = ⊎_elim (λ h. absurd (unshared h.0)) (λ h. h.1) (past 3 tt (past 2 tt (past 1 tt r)))

state_unmasked : (s : State) → state_rows s 16 → ⊥
state_unmasked s r = past 15 tt (past 14 tt (past 5 tt r))

read_unmasked : (k : ℕ) (slots : List ℕ) → read_rows k slots 16 → ⊥
read_unmasked k slots r = past 15 tt (past 14 tt (past 5 tt (past 4 tt r)))

pub no_masks_no_refusal : NoMasksNoRefusal
no_masks_no_refusal = (
  λ s b e. state_unmasked s (start_unmasked b (state_rows s) ((step_refuses (world s b) 16).0 e)),
  λ n s b e. state_unmasked s (start_unmasked b (state_rows s) ((run_refuses n (world s b) 16).0 e)),
  λ n k b slots e. read_unmasked k slots (start_unmasked b (read_rows k slots) ((resume_refuses n k (bench b slots) 16).0 e)),
)

-- ---- what masks add

-- where the act comes to the same, so does the step
same_step : (w : World) → performed w.grant.own (asked w) w.board ≡ performed all_words (asked w) w.board
    → ((stepped w).st ≡ (stepped (world w.st w.board)).st) × ((stepped w).board ≡ (stepped (world w.st w.board)).board)
unfolding stepped asked
same_step w e = go (paused w)
  where
    unmasked : World
    unmasked = world w.st w.board

    go : (b : Bool)
        → ((cond b (after (step_done w) w) w).st ≡ (cond b (after (step_done unmasked) unmasked) unmasked).st)
        × ((cond b (after (step_done w) w) w).board ≡ (cond b (after (step_done unmasked) unmasked) unmasked).board)
    go true = (ap (λ (d : Done). applied d.answer w.st) e, ap (λ (d : Done). d.lent) e)
    go false = (refl, refl)

pub only_stop_added : OnlyStopAdded
only_stop_added w ne = go (paused w) refl
  where
    mine : paused w ≡ true → (k : ℕ) → There w.board (asked w) k → owns w.grant.own k ≡ true
    mine p k t = by (owns w.grant.own k) refl
      where
        by : (b : Bool) → owns w.grant.own k ≡ b → b ≡ true
        by true e = refl
        by false e = absurd (ne ((stops_unowned w p).1 (k, t, e)))

    go : (b : Bool) → paused w ≡ b
        → ((stepped w).st ≡ (stepped (world w.st w.board)).st) × ((stepped w).board ≡ (stepped (world w.st w.board)).board)
    go true p = same_step w (act_owned w.grant.own w.board (asked w) (λ k t. (mine p k t, all_owned k (there_below w.board (asked w) k t))))
    go false p =
        let h : w.st.stop ≡ 0 → ⊥ = eqb-false _ _ p in
        let v = step_stopped w h in
        let u = step_stopped (world w.st w.board) h in
        (ap (λ (x : World). x.st) v ∙ sym (ap (λ (x : World). x.st) u), ap (λ (x : World). x.board) v ∙ sym (ap (λ (x : World). x.board) u))

-- ---- words that are not its own

pub others_kept : OthersKept
others_kept n w l = (run_spares n w l).others

pub entries_keep_others : EntriesKeepOthers
entries_keep_others = (
  λ w. subst (λ (b : Board). Agree (Foreign w.grant.own) b.row w.board.row) (sym (one_step w).1) (entry_spares 1 w).others,
  λ n w. (entry_spares n w).others,
  λ n k h.
      decided-lent (λ (l : Bench). Agree (Foreign h.grant.own) l.board.row h.board.row) (resume_checked k h) (resume_given n k h) Err h
      (λ e. (run_spares n (slot_world k h) (checked-long h.board h.grant _ e)).others) (agree_refl _ h.board.row),
)

-- the record that is put back has 144 bytes
pub other_slots_kept : OtherSlotsKept
other_slots_kept n k h f sb =
    decided-lent (λ (l : Bench). Beside l.slots) (resume_checked k h) (resume_given n k h) Err h accepted (refl, refl)
  where
    Beside : List ℕ → Type 0
    Beside slots = (take (144 * k) slots ≡ take (144 * k) h.slots) × (drop (144 * k + 144) slots ≡ drop (144 * k + 144) h.slots)

    accepted : resume_checked k h ≡ passed → Beside (resume_given n k h).lent.slots
    accepted e =
        let l = start_accepted h.board h.grant _ e in
        let r : ReadsWell k h.slots = reads_well k h.slots l.2 in
        let w : World = slot_world k h in
        let g : Runnable w = ((bytes_fit (slot_at k h.slots) (slot-bytes k h.slots sb), r.formed), (f, l.0), l.1) in
        let s : State = (ran n w).st in
        let long = length_record s (runnable_ran n w g).0.0.x_length in
        let there = there-fits k h.slots r.there in
        (take-before k (record_of s) h.slots long there, drop-after k (record_of s) h.slots long there)

-- ---- what one recipe gets back
-- one state and memory, on rows that agree on the own words
on_rows : (own p q : ℕ) (s : State) (m f g : List ℕ) → length f ≡ 512 → Agree (Mine own) f g
    → Alike own (masked (grant own p) s (board m f)) (masked (grant own q) s (board m g))
on_rows own p q s m f g l e = record { st = refl; left = refl; right = refl; peers = record { mem = refl; row = e; long = l } }

pub isolated : Isolated
isolated n own p q s m f g l e = let r = run_alike n (on_rows own p q s m f g l e) in (r.0.st, r.0.peers.mem, r.0.peers.row, r.1)

-- rows that pass check 3 are not told apart by the tests
same_start : (m f g : List ℕ) (k : Grant) (rest : Check) → Row f → Row g → start_checked (board m f) k rest ≡ start_checked (board m g) k rest
same_start m f g k rest p q = rw (eq-eqb _ 512 p.0, eq-eqb _ 512 q.0, p.1, q.1)

-- two calls whose tests say the same answer the same and leave what is related by R, where what they give is so, and what was lent
decided_alike : {A B : Type 0} (R : B → B → Type 0) {c d : Check} (o p : Outcome A B) (refusal : Refusal → A) (x y : B) → c ≡ d
    → (o.answer ≡ p.answer) × R o.lent p.lent → R x y
    → ((decided c o refusal x).answer ≡ (decided d p refusal y).answer) × R (decided c o refusal x).lent (decided d p refusal y).lent
unfolding decided
decided_alike R {c} {d} o p refusal x y e h k = rw (← e) (go c)
  where
    go : (t : Check) → ((decided t o refusal x).answer ≡ (decided t p refusal y).answer) × R (decided t o refusal x).lent (decided t p refusal y).lent
    go (Ok u) = h
    go (Err r) = (refl, k)

-- a step is a run of one
pub step_isolated : StepIsolated
unfolding ran
step_isolated k s m f g p q e =
    let v : World = masked k s (board m f) in
    let w : World = masked k s (board m g) in
    let a = on_rows k.own k.other k.other s m f g p.0 e in
    let r = run_alike 1 a in
    let t = decided_alike (Peers k.own) (step_given v) (step_given w) Err v.board w.board (same_start m f g k _ p q)
    (ap Ok r.0.st, r.0.peers) a.peers in
    (t.0, t.1.mem, t.1.row)

pub run_isolated : RunIsolated
run_isolated n k s m f g p q e =
    let v : World = masked k s (board m f) in
    let w : World = masked k s (board m g) in
    let a = on_rows k.own k.other k.other s m f g p.0 e in
    let r = run_alike n a in
    let t = decided_alike (Peers k.own) (run_given n v) (run_given n w) Err v.board w.board (same_start m f g k _ p q)
    (ap₂ ran_to r.0.st r.1, r.0.peers) a.peers in
    (t.0, t.1.mem, t.1.row)

pub slot_run_isolated : SlotRunIsolated
slot_run_isolated n i k m f g slots p q e =
    let h : Bench = shared_bench k (board m f) slots in
    let j : Bench = shared_bench k (board m g) slots in
    let a = on_rows k.own k.other k.other (slot_world i h).st m f g p.0 e in
    let r = run_alike n a in
    let t = decided_alike (λ (b c : Bench). (b.slots ≡ c.slots) × Peers k.own b.board c.board) (resume_given n i h) (resume_given n i j) Err h j
    (same_start m f g k _ p q) (ap Ok r.1, (ap (λ s. slot_set i (record_of s) slots) r.0.st, r.0.peers)) (refl, a.peers) in
    (t.0, t.1.1.mem, t.1.0, t.1.1.row)
