-- A call that writes a slot, by what its tests come to.
use mathlib.Core.Path.{◌≡◌, refl, ap}
use mathlib.Core.Bool.{true, false}
use mathlib.Core.List.{List}
use Prim.Native.Nat.{ℕ}
use Rattle.answers.specs.Outcomes.{outcome}
use Rattle.answers.proofs.Entries.{is-refused, is-given}
use Rattle.answers.specs.declared.Refusal.{Refusal}
use Rattle.answers.specs.declared.Refusal.TheVariants as R
use Rattle.records.specs.Records.{record_of, state_of}
use Rattle.slots.specs.Slots.{slot_there, slot_at, slot_set, read_checked}
use Rattle.c_slots.specs.Slots.{lent_checked, lent_entry}
use Rattle.answers.specs.Checks.{Check, passed}
use Rattle.std.specs.Prelude.{Err}

module _ (state : List ℕ) (k : ℕ) (slots : List ℕ) where
  -- the slot is not there
  pub no_slot : slot_there k slots ≡ false → outcome (Err R.Slot) slots ≡ lent_entry state k slots
  no_slot e = is-refused {r = R.Slot} _ Err slots refl (rw e)

  module _ (there : slot_there k slots ≡ true) where
    decides : {c : Check} → read_checked 0 state ≡ c → lent_checked state k slots ≡ c
    decides e = rw there e

    -- the record is refused
    pub no_state_lem : {r : Refusal} → read_checked 0 state ≡ Err r → outcome (Err r) slots ≡ lent_entry state k slots
    no_state_lem {r} e = is-refused {r = r} _ Err slots refl (decides e)

    -- neither
    pub written : {left : List ℕ} → read_checked 0 state ≡ passed → left ≡ slot_set k (record_of (state_of (slot_at 0 state))) slots
        → outcome passed left ≡ lent_entry state k slots
    written e put = is-given Err slots refl (decides e) (ap (outcome passed) put)
