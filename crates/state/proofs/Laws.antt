-- Laws of a state: registers stay words, what a step makes of a sound state is one, and which states are malformed.
use mathlib.Core.Path.{◌≡◌, refl, ◌∙◌}
use mathlib.Core.Bool.{Bool, true, false, ◌&&◌, ◌||◌, and-eq-true_iff}
use mathlib.Core.Logic.{◌↔◌, ◌⊎◌, inl, inr, ⊎_elim}
use mathlib.Core.List.{List}
use Prim.Native.Nat.{ℕ, ◌-◌, ◌%◌, ◌^◌, ◌≤◌, ◌<◌}
use native.Mathlib.Omega.{arith}
use lib.ListN.{length, length-set}
use lib.Dec.{eqb, leb}
use borrow.Author.Tests.{eqb-true, eqb-false, eq-eqb, ne_eqb, le-leb, leb-true, leb-false, lt-leb}
use Rattle.answers.specs.Stops.{stop_number, last_stop, located, HasNoAddress}
use Rattle.answers.proofs.Numbers.{stop-numbered}
use Rattle.answers.proofs.Checks.{both_passed}
use Rattle.answers.specs.declared.Cause.{Cause}
use Rattle.answers.specs.declared.Refusal.TheVariants as R
use Rattle.word.specs.Bounds.{AllBelow}
use Rattle.word.proofs.Bools.{either, second, below, and_fails, or_fails}
use Rattle.word.proofs.Bounds.{below_set, below_get}
use Rattle.isa.specs.declared.Reg.{Reg}
use Rattle.state.specs.declared.State.{State}
use Rattle.state.specs.Sizes.{Fits}
use Rattle.state.specs.States.{register_of, register_set, written, advanced, halted, address_allowed, well_formed, form_checked}
use Rattle.answers.specs.Checks.{passed}

-- ---- registers

pub register_lt : (x : List ℕ) (r : Reg) → AllBelow (2 ^ 32) x → register_of x r < 2 ^ 32
register_lt x r h = either (λ v. v < 2 ^ 32) (eqb r.number 0) _ _ (omega arith) (below_get (2 ^ 32) x (r.number - 1) (omega arith) h)

register_below : (r : Reg) (v : ℕ) (x : List ℕ) → AllBelow (2 ^ 32) x → v < 2 ^ 32 → AllBelow (2 ^ 32) (register_set r v x)
register_below r v x h k = either (AllBelow (2 ^ 32)) (eqb r.number 0) _ _ h (below_set (2 ^ 32) x (r.number - 1) v h k)

length-register : (r : Reg) (v : ℕ) (x : List ℕ) → length (register_set r v x) ≡ length x
length-register r v x = either (λ y. length y ≡ length x) (eqb r.number 0) _ _ refl (length-set x (r.number - 1) v)

-- ---- well-formed states

-- a stop has an address, has none, or is no stop
bare : (n : ℕ) → HasNoAddress n → located n ≡ false
bare n (inl e) = rw e
bare n (inr (inl e)) = rw e
bare n (inr (inr (inl e))) = rw e
bare n (inr (inr (inr e))) = rw e

-- below 3, or above 9 and not 11
abbrev NotLocated : ℕ → Type 0
NotLocated n = (n < 3) ⊎ ((9 < n) × (n ≡ 11 → ⊥))

located_fails : (n : ℕ) → (located n ≡ false) ↔ NotLocated n
located_fails n = (there, back)
  where
    there : located n ≡ false → NotLocated n
    there e =
        let f = or_fails (leb 3 n && leb n 9) (eqb n 11) e in
        ⊎_elim (λ l. inl (leb-false 3 n l)) (λ l. inr (leb-false n 9 l, eqb-false n 11 f.1)) ((and_fails (leb 3 n) (leb n 9) (λ l. l, λ l. l) (λ l. l, λ l. l)).0 f.0)

    back : NotLocated n → located n ≡ false
    back (inl l) = rw (lt-leb 3 n l, ne_eqb n 11 (λ e. omega arith))
    back (inr h) = rw (le-leb 3 n (omega (arith, h.0)), lt-leb n 9 h.0, ne_eqb n 11 h.1)

not-located : (n : ℕ) → located n ≡ false → n ≤ last_stop → HasNoAddress n
not-located n e l = ⊎_elim low-numbers ten ((located_fails n).0 e)
  where
    low-numbers : n < 3 → HasNoAddress n
    low-numbers h = ⊎_elim (λ a. inl (omega arith)) (λ a. ⊎_elim (λ b. inr (inl (omega arith))) (λ b. inr (inr (inl (omega arith)))) (below n 2)) (below n 1)

    ten : (9 < n) × (n ≡ 11 → ⊥) → HasNoAddress n
    ten h = ⊎_elim (λ a. inr (inr (inr (omega (arith, h.0))))) (λ a. absurd (h.1 (omega arith))) (below n 11)

-- its address is not allowed
abbrev StrayAddress : State → Type 0
StrayAddress s = NotLocated s.stop × (s.address ≡ 0 → ⊥)

pub stray_address : (s : State) → (address_allowed s ≡ false) ↔ StrayAddress s
stray_address s = (
  λ e. let f = or_fails (located s.stop) (eqb s.address 0) e in ((located_fails s.stop).0 f.0, eqb-false _ _ f.1),
  λ h. rw ((located_fails s.stop).1 h.0, ne_eqb s.address 0 h.1),
)

-- which states are malformed, and by which refusal

pub odd_pc : (s : State) → (eqb (s.pc % 2) 0 ≡ false) ↔ (s.pc % 2 ≡ 1)
odd_pc s = (λ e. omega (arith, eqb-false (s.pc % 2) 0 e), λ h. ne_eqb (s.pc % 2) 0 (λ z. omega arith))

pub no_stop : (s : State) → (leb s.stop last_stop ≡ false) ↔ (last_stop < s.stop)
no_stop s = (leb-false _ _, lt-leb _ _)

pub malformed : (s : State) → (well_formed s ≡ false) ↔ ((s.pc % 2 ≡ 1) ⊎ (last_stop < s.stop) ⊎ StrayAddress s)
malformed s = and_fails (eqb (s.pc % 2) 0) _ (odd_pc s) (and_fails (leb s.stop last_stop) (address_allowed s) (no_stop s) (stray_address s))

-- refusals 5, 14 and 15: the check passes exactly if the state is well-formed, and those zeros are there
pub form_passes : (zeros : Bool) (s : State) → zeros ≡ true → well_formed s ≡ true → form_checked zeros s ≡ passed
form_passes zeros s z w =
    let p = (and-eq-true_iff (eqb (s.pc % 2) 0) _).0 w in
    let q = (and-eq-true_iff (leb s.stop last_stop) (address_allowed s)).0 p.1 in
    rw (p.0, q.0, z, q.1)

pub form_passed : (zeros : Bool) (s : State) → form_checked zeros s ≡ passed → (zeros ≡ true) × (well_formed s ≡ true)
form_passed zeros s e =
    let p = both_passed (eqb (s.pc % 2) 0) R.OddPc _ e in
    let q = both_passed (leb s.stop last_stop) R.StopNumber _ p.1 in
    let r = (and-eq-true_iff zeros (address_allowed s)).0 (both_passed (zeros && address_allowed s) R.RecordEnd passed q.1).0 in
    (r.0, rw (p.0, q.0) r.1)

pub formed_even : (s : State) → well_formed s ≡ true → s.pc % 2 ≡ 0
formed_even s h = eqb-true _ _ ((and-eq-true_iff _ (leb s.stop last_stop && (located s.stop || eqb s.address 0))).0 h).0

-- what is asked of a state beside its pc
abbrev StopFormed : ℕ → ℕ → Type 0
StopFormed stop address = (leb stop last_stop && (located stop || eqb address 0)) ≡ true

formed_stop : (s : State) → well_formed s ≡ true → StopFormed s.stop s.address
formed_stop s h = second (eqb (s.pc % 2) 0) _ h

is_formed : (s : State) → s.pc % 2 ≡ 0 → StopFormed s.stop s.address → well_formed s ≡ true
is_formed s e l = rw (eq-eqb (s.pc % 2) 0 e) l

-- as it was said before the refusals were told apart
pub formed_before : (s : State) → (well_formed s ≡ true) ↔ ((s.pc % 2 ≡ 0) × (s.stop ≤ last_stop) × (HasNoAddress s.stop → s.address ≡ 0))
formed_before s = (there, λ h. is_formed s h.0 (back h))
  where
    there : well_formed s ≡ true → (s.pc % 2 ≡ 0) × (s.stop ≤ last_stop) × (HasNoAddress s.stop → s.address ≡ 0)
    there w =
        let p = (and-eq-true_iff (eqb (s.pc % 2) 0) _).0 w in
        let q = (and-eq-true_iff (leb s.stop last_stop) (address_allowed s)).0 p.1 in
        (eqb-true _ _ p.0, leb-true _ _ q.0, λ n. eqb-true _ _ (rw (bare s.stop n) at q.1))

    back : (s.pc % 2 ≡ 0) × (s.stop ≤ last_stop) × (HasNoAddress s.stop → s.address ≡ 0) → StopFormed s.stop s.address
    back h = rw (le-leb _ _ h.1) (go (located s.stop) refl)
      where
        go : (b : Bool) → located s.stop ≡ b → (b || eqb s.address 0) ≡ true
        go true e = refl
        go false e = eq-eqb _ _ (h.2 (not-located s.stop e h.1))

-- a state at no address, as all of them were when there was none
pub formed_nowhere : (s : State) → s.pc % 2 ≡ 0 → s.stop ≤ last_stop → s.address ≡ 0 → well_formed s ≡ true
formed_nowhere s e l z = is_formed s e (rw (le-leb _ _ l, z) (go (located s.stop)))
  where
    go : (b : Bool) → (b || true) ≡ true
    go true = refl
    go false = refl

-- ---- what a step makes of a state

-- its numbers fit, and it is well-formed
abbrev pub SoundState : State → Type 0
SoundState s = Fits s × (well_formed s ≡ true)

-- where an instruction can be
abbrev pub Address : ℕ → Type 0
Address pc = (pc < 2 ^ 32) × (pc % 2 ≡ 0)

pub advanced_sound : (rd : Reg) (v pc : ℕ) (s : State) → v < 2 ^ 32 → Address pc → s.count < 2 ^ 64 - 1 → SoundState s → SoundState (advanced pc (written rd v s))
advanced_sound rd v pc s h a room g = (
  record {
    pc_fits = a.0;
    x_length = length-register rd v s.x ∙ g.0.x_length;
    x_fits = register_below rd v s.x g.0.x_fits h;
    count_fits = omega arith;
    stop_fits = g.0.stop_fits;
    address_fits = g.0.address_fits;
  },
  is_formed (advanced pc (written rd v s)) a.1 (formed_stop s g.1),
)

-- a stop's address fits, and is zero where it has none
abbrev pub SoundCause : Cause → Type 0
SoundCause why = (why.address < 2 ^ 32) × ((located (stop_number why.stop) || eqb why.address 0) ≡ true)

pub halted_sound : (why : Cause) (s : State) → SoundCause why → SoundState s → SoundState (halted why s)
halted_sound why s k g =
    let l = (stop-numbered why.stop).2 in (
      record {
        pc_fits = g.0.pc_fits;
        x_length = g.0.x_length;
        x_fits = g.0.x_fits;
        count_fits = g.0.count_fits;
        stop_fits = omega arith;
        address_fits = k.0;
      },
      is_formed (halted why s) (formed_even s g.1) (rw (le-leb (stop_number why.stop) last_stop l) k.1),
    )
