-- Slots: bytes set in a slot are there, the buffer keeps its length, and the later of two settings stands; which slots are refused, and what a slot holds that reads well.
use Prim.Native.Nat.{ℕ, ◌+◌, ◌-◌, ◌*◌, ◌/◌, ◌%◌, ◌^◌, ◌≤◌, ◌<◌}
use native.Mathlib.Omega.{arith}
use mathlib.Core.Path.{◌≡◌, refl, sym, ap, ◌∙◌}
use mathlib.Core.Bool.{Bool, true, false, not, and-eq-true_iff}
use mathlib.Core.Logic.{◌↔◌, ◌⊎◌, inl, inr, ⊎_elim}
use mathlib.Core.List.{List, ◌++◌, append_assoc}
use lib.ListN.{length, take, drop, length-append, length-take, length-drop, take-append-drop}
use lib.Seq.{length-take-le, take-add, take_at, drop_at, take_all}
use lib.Dec.{eqb, ltb}
use borrow.Author.Tests.{eqb-true, eqb-false, eq-eqb, ne_eqb, ltb-true, ltb-false, lt-ltb, le-ltb, not-false}
use Rattle.word.specs.Bounds.{AllBelow}
use Rattle.word.proofs.Bools.{and_right, and_fails, is_true, holds}
use Rattle.word.proofs.Bounds.{below_take, below_drop}
use Rattle.answers.specs.Outcomes.{Outcome, outcome, decided}
use Rattle.answers.proofs.Checks.{both_passed}
use Rattle.answers.specs.declared.Refusal.TheVariants as R
use Rattle.octets.specs.Bytes.{load}
use Rattle.state.specs.declared.State.{State}
use Rattle.state.specs.Sizes.{Fits}
use Rattle.state.specs.States.{well_formed}
use Rattle.state.proofs.Laws.{form_passes, form_passed}
use Rattle.records.specs.Records.{record_of, state_of}
use Rattle.records.proofs.Records.{length_record, record_sound, read_back, write_back}
use Rattle.slots.specs.Slots.{slot_there, slot_at, slot_set, write_entry, read_checked, read_entry}
use Rattle.answers.specs.Checks.{Check, passed}
use Rattle.answers.specs.declared.Refusal.{Refusal}
use Rattle.std.specs.Prelude.{Err, Ok, Result}

-- the part from a slot's start to its end
pub one_record : (start : ℕ) → start + 144 - start ≡ 144
one_record start = omega arith

pub there-fits : (k : ℕ) (slots : List ℕ) → slot_there k slots ≡ true → 144 * k + 144 ≤ length slots
there-fits k slots h =
    let less = ltb-true k (length slots / 144) (is_true _ (and_right (eqb (length slots % 144) 0) _ (holds _ h))) in
    omega arith

-- a slot that was found there is within the buffer
pub slot-fits : (k : ℕ) (slots : List ℕ) {found : Bool} → found ≡ slot_there k slots → not found ≡ false → 144 * k + 144 ≤ length slots
slot-fits k slots {found} e h = there-fits k slots (sym e ∙ not-false found h)

module _ (k : ℕ) (bytes slots : List ℕ) (lb : length bytes ≡ 144) (ls : 144 * k + 144 ≤ length slots) where
  before : length (take (144 * k) slots) ≡ 144 * k
  before = length-take-le (144 * k) slots (omega arith)

  apart : slot_set k bytes slots ≡ take (144 * k) slots ++ (bytes ++ drop (144 * k + 144) slots)
  apart = append_assoc (take (144 * k) slots) bytes (drop (144 * k + 144) slots)

  pub slot_set_at : slot_at k (slot_set k bytes slots) ≡ bytes
  slot_set_at =
      let after = drop (144 * k + 144) slots in
      rw (apart, drop_at (take (144 * k) slots) (bytes ++ after) (144 * k) before, take_at bytes after 144 lb)

  pub slot_set_length : length (slot_set k bytes slots) ≡ length slots
  slot_set_length = simp (length-append, length-take, length-drop) (omega arith)

  pub take-before : take (144 * k) (slot_set k bytes slots) ≡ take (144 * k) slots
  take-before = rw apart (take_at (take (144 * k) slots) (bytes ++ drop (144 * k + 144) slots) (144 * k) before)

  pub drop-after : drop (144 * k + 144) (slot_set k bytes slots) ≡ drop (144 * k + 144) slots
  drop-after =
      drop_at (take (144 * k) slots ++ bytes) (drop (144 * k + 144) slots) (144 * k + 144) (rw length-append (let b = before in omega arith))

-- the bytes of slot k, set in slot k
pub slot_same : (k : ℕ) (slots : List ℕ) → slot_set k (slot_at k slots) slots ≡ slots
slot_same k slots = rw (← (take-add (144 * k) 144 slots)) (take-append-drop (144 * k + 144) slots)

pub slot-bytes : (k : ℕ) (slots : List ℕ) → AllBelow (2 ^ 8) slots → AllBelow (2 ^ 8) (slot_at k slots)
slot-bytes k slots b = below_take (2 ^ 8) 144 (drop (144 * k) slots) (below_drop (2 ^ 8) (144 * k) slots b)

-- ---- one record is a buffer of one slot

module _ (r : List ℕ) (l : length r ≡ 144) where
  pub one_slot_there : slot_there 0 r ≡ true
  one_slot_there = rw l

  pub one_slot_at : slot_at 0 r ≡ r
  one_slot_at = take_all 144 r (omega (arith, l))

-- ---- which slots are there

pub slot_is : (k : ℕ) (slots : List ℕ) → (slot_there k slots ≡ true) ↔ ((length slots % 144 ≡ 0) × (k < length slots / 144))
slot_is k slots = (
  λ e. let t = (and-eq-true_iff (eqb (length slots % 144) 0) (ltb k (length slots / 144))).0 e in (eqb-true _ _ t.0, ltb-true _ _ t.1),
  λ h. rw (eq-eqb (length slots % 144) 0 h.0, lt-ltb k (length slots / 144) h.1),
)

-- ---- which slots are refused

pub no_slot : (k : ℕ) (slots : List ℕ) → (slot_there k slots ≡ false) ↔ ((length slots % 144 ≡ 0 → ⊥) ⊎ (length slots / 144 ≤ k))
no_slot k slots = and_fails (eqb (length slots % 144) 0) (ltb k (length slots / 144)) (eqb-false _ _, ne_eqb _ _) (ltb-false _ _, le-ltb _ _)

-- a slot that reads well is there, its state well-formed, and its bytes 137 to 139 zero
pub record ReadsWell (k : ℕ) (slots : List ℕ) : Type 0 where
  pub there : slot_there k slots ≡ true
  pub formed : well_formed (state_of (slot_at k slots)) ≡ true
  pub rest : load 3 137 (slot_at k slots) ≡ 0

pub reads_well : (k : ℕ) (slots : List ℕ) → read_checked k slots ≡ passed → ReadsWell k slots
reads_well k slots e =
    let part : List ℕ = slot_at k slots in
    let t = both_passed (slot_there k slots) R.Slot _ e in
    let s = form_passed (eqb (load 3 137 part) 0) (state_of part) t.1 in
    record { there = t.0; formed = s.1; rest = eqb-true _ _ s.0 }

pub slot-length : (k : ℕ) (slots : List ℕ) → slot_there k slots ≡ true → length (slot_at k slots) ≡ 144
slot-length k slots t = let fits = there-fits k slots t in length-take-le 144 (drop (144 * k) slots) (rw length-drop (omega arith))

-- its bytes are the record of its state
pub same_record : (k : ℕ) (slots : List ℕ) → AllBelow (2 ^ 8) slots → ReadsWell k slots → record_of (state_of (slot_at k slots)) ≡ slot_at k slots
same_record k slots b r =
    write_back (slot_at k slots) (slot-length k slots r.there) (slot-bytes k slots b) r.rest

-- ---- slot k holds the record of s

pub record SlotHolds (k : ℕ) (s : State) (slots : List ℕ) : Type 0 where
  pub there : slot_there k slots ≡ true
  pub record_held : slot_at k slots ≡ record_of s

pub holds_set : (k : ℕ) (s : State) (slots : List ℕ) → length s.x ≡ 31 → slot_there k slots ≡ true → SlotHolds k s (slot_set k (record_of s) slots)
holds_set k s slots l t =
    let r = length_record s l in
    let i = there-fits k slots t in
    record { there = rw (slot_set_length k (record_of s) slots r i) t; record_held = slot_set_at k (record_of s) slots r i }

pub read_held : (k : ℕ) (s : State) (slots : List ℕ) → SlotHolds k s slots → Fits s → well_formed s ≡ true → read_entry k slots ≡ outcome (Ok s) tt
unfolding decided
read_held k s slots h f w =
    rw (h.there, h.record_held, record_sound s f w, read_back s f)

pub write_passes : (k : ℕ) (s : State) (slots : List ℕ) → slot_there k slots ≡ true → well_formed s ≡ true → write_entry k s slots ≡ outcome passed (slot_set k (record_of s) slots)
unfolding decided
write_passes k s slots t h = rw (t, form_passes true s refl h)

-- ---- what reading slot k answered

module _ (k : ℕ) (slots : List ℕ) {b : Result State Refusal} (e : outcome b tt ≡ read_entry k slots) where
  -- every test passed, and the state is what the record says; or the refusal
  abbrev Found : Check → Type 0
  Found c = ((c ≡ passed) × (b ≡ Ok (state_of (slot_at k slots)))) ⊎ ((r : Refusal) × (c ≡ Err r) × (b ≡ Err r))

  found_by : (c : Check) → b ≡ (decided {B = Unit {0}} c (outcome (Ok (state_of (slot_at k slots))) tt) Err tt).answer → Found c
  unfolding decided
  found_by (Ok u) h = inl (refl, h)
  found_by (Err r) h = inr (r, refl, h)

  found : Found (read_checked k slots)
  found = found_by (read_checked k slots) (ap (λ o. o.answer) e)

  pub refused_was : {r : Refusal} → b ≡ Err r → read_checked k slots ≡ Err r
  refused_was h = ⊎_elim (λ p. let z = sym p.1 ∙ h in cc) (λ q. q.1 ∙ (let z = sym q.2 ∙ h in cc)) found

  pub passed_was : {s : State} → b ≡ Ok s → (read_checked k slots ≡ passed) × (s ≡ state_of (slot_at k slots))
  passed_was h = ⊎_elim (λ p. (p.0, (let z = sym h ∙ p.1 in cc))) (λ q. let z = sym q.2 ∙ h in cc) found

  pub state_was : {s : State} → b ≡ Ok s → s ≡ state_of (slot_at k slots)
  state_was h = (passed_was h).1

  pub slot_was_there : {s : State} → b ≡ Ok s → 144 * k + 144 ≤ length slots
  slot_was_there h = there-fits k slots (both_passed (slot_there k slots) R.Slot _ (passed_was h).0).0
