-- Stop 11: every other way in which a step goes has another stop number, so that 11 comes of a word that is not its own alone.
use Rattle.std.specs.Prelude.{Ok, Err}
use mathlib.Core.Path.{◌≡◌, refl, ap}
use mathlib.Core.Bool.{Bool, true, false}
use mathlib.Core.List.{List}
use mathlib.Core.Logic.{◌↔◌, inl, inr}
use Prim.Native.Nat.{ℕ, ◌<◌}
use native.Mathlib.Omega.{arith}
use borrow.Author.Tests.{eqb-true}
use Rattle.answers.specs.Outcomes.{outcome}
use Rattle.answers.specs.Stops.{stop_number}
use Rattle.answers.specs.declared.Cause.{Cause}
use Rattle.isa.specs.declared.LoadOp.{LoadOp}
use Rattle.isa.specs.declared.Reg.{Reg}
use Rattle.isa.specs.declared.StoreOp.{StoreOp}
use Rattle.place.specs.declared.Place.{Place}
use Rattle.place.specs.declared.Place.TheVariants.{Memory, Fuse, Misaligned, Outside}
use Rattle.place.proofs.Placed.{placed_fuse}
use Rattle.fuses.specs.Row.{Stored, word_stored, owns, all_words}
use Rattle.state.specs.declared.State.{State}
use Rattle.boards.specs.Boards.{Board}
use Rattle.access.specs.Accesses.{load_place, loaded_from, loaded_from_row, of_stored, store_place, stored_to, stored_in_row}
use Rattle.execute.specs.declared.Act.{Act}
use Rattle.execute.specs.declared.Act.TheVariants.{Sets, Loads, Stores, Ends}
use Rattle.execute.specs.Execution.{act_of, performed}
use Rattle.execute.proofs.Acts.{EndsBare, ends_bare}
use Rattle.fetch.proofs.Laws.{FailsBy, fetch_fails}
use Rattle.engine.specs.Steps.{World, asked, applied, paused, stepped}
use Rattle.engine.proofs.Walk.{by_asked}

-- ---- what is asked for ends with no 11

abbrev OtherEnd : Act → Type 0
OtherEnd (Sets rd v pc) = Unit {0}
OtherEnd (Loads o rd a pc) = Unit {0}
OtherEnd (Stores o v a pc) = Unit {0}
OtherEnd (Ends why) = stop_number why.stop ≡ 11 → ⊥

bare_other : (a : Act) → EndsBare a → OtherEnd a
bare_other (Sets rd v pc) b = tt
bare_other (Loads o rd a pc) b = tt
bare_other (Stores o v a pc) b = tt
bare_other (Ends why) (inl e) = rw e (λ n. omega arith)
bare_other (Ends why) (inr e) = rw e (λ n. omega arith)

fails_other : (pc : ℕ) (m : List ℕ) (why : Cause) → FailsBy pc m why → OtherEnd (Ends why)
fails_other pc m why (inl e) = rw e (λ n. omega arith)
fails_other pc m why (inr e) = rw e (λ n. omega arith)

asked-other : (w : World) → OtherEnd (asked w)
asked-other w =
    by_asked w OtherEnd (λ n. omega arith) (λ why e. fails_other w.st.pc w.board.mem why (fetch_fails w.st.pc w.board.mem e))
    (λ i len room e. bare_other (act_of i _ w.st.pc w.st.x) (ends_bare i _ w.st.pc w.st.x))

-- ---- exactly

-- the act's access lies at word k of the row
abbrev pub There : Board → Act → ℕ → Type 0
There b (Sets rd v pc) k = ⊥
There b (Loads o rd a pc) k = load_place o a b ≡ Fuse k
There b (Stores o v a pc) k = store_place o a b ≡ Fuse k
There b (Ends why) k = ⊥

pub there_below : (b : Board) (a : Act) (k : ℕ) → There b a k → k < 64
there_below b (Sets rd v pc) k t = absurd t
there_below b (Loads o rd a pc) k t = placed_fuse _ a _ k t
there_below b (Stores o v a pc) k t = placed_fuse _ a _ k t
there_below b (Ends why) k t = absurd t

module _ (own : ℕ) (b : Board) (s : State) (z : s.stop ≡ 0) where
  -- what is to be seen of the stop number n after an access at a place
  abbrev After : Place → ℕ → Type 0
  After (Memory i) n = n ≡ 11 → ⊥
  After (Fuse k) n = (owns own k ≡ true → n ≡ 11 → ⊥) × (owns own k ≡ false → n ≡ 11)
  After Misaligned n = n ≡ 11 → ⊥
  After Outside n = n ≡ 11 → ⊥

  after_exactly : (p : Place) (n : ℕ) → After p n → (n ≡ 11) ↔ ((k : ℕ) × (p ≡ Fuse k) × (owns own k ≡ false))
  after_exactly (Memory i) n h = (λ e. absurd (h e), λ r. let q = r.1 in cc)
  after_exactly (Fuse k) n h = (go (owns own k) refl, λ r. let q : Fuse k ≡ Fuse r.0 = r.1 in let j : k ≡ r.0 = cc in h.1 (rw j r.2))
    where
      go : (mine : Bool) → owns own k ≡ mine → n ≡ 11 → (j : ℕ) × (Fuse k ≡ Fuse j) × (owns own j ≡ false)
      go true e t = absurd (h.0 e t)
      go false e t = (k, refl, e)
  after_exactly Misaligned n h = (λ e. absurd (h e), λ r. let q = r.1 in cc)
  after_exactly Outside n h = (λ e. absurd (h e), λ r. let q = r.1 in cc)

  act_exactly : (a : Act) → OtherEnd a → ((applied (performed own a b).answer s).stop ≡ 11) ↔ ((k : ℕ) × There b a k × (owns own k ≡ false))
  unfolding performed loaded_from loaded_from_row stored_to stored_in_row applied
  act_exactly (Sets rd v pc) h = (λ e. absurd (omega (arith, z)), λ r. absurd r.1)
  act_exactly (Loads o rd a pc) h = after_exactly (load_place o a b) _ (go (load_place o a b))
    where
      go : (p : Place) → After p (applied (loaded_from own p o rd a pc b) s).stop
      go (Memory i) = λ e. omega (arith, z)
      go (Fuse k) = (λ e. rw e (λ n. omega (arith, z)), λ e. rw e)
      go Misaligned = λ e. omega arith
      go Outside = λ e. omega arith
  act_exactly (Stores o v a pc) h = after_exactly (store_place o a b) _ (go (store_place o a b))
    where
      stored : (t : Stored) → (applied (of_stored t a pc) s).stop ≡ 11 → ⊥
      stored (Ok u) n = omega (arith, z)
      stored (Err e) n = omega arith

      go : (p : Place) → After p (applied (stored_to own p o v a pc b).answer s).stop
      go (Memory i) = λ e. omega (arith, z)
      go (Fuse k) = (λ e. rw e (stored (word_stored k v b.row).answer), λ e. rw e)
      go Misaligned = λ e. omega arith
      go Outside = λ e. omega arith
  act_exactly (Ends why) h = (λ e. absurd (h e), λ r. absurd r.1)

-- ---- at own words

module _ (own : ℕ) (b : Board) where
  -- an access at a place comes to what it comes to where all words are its own
  abbrev Owned : Place → Type 0
  Owned p = (k : ℕ) → p ≡ Fuse k → (owns own k ≡ true) × (owns all_words k ≡ true)

  load_owned : (p : Place) (o : LoadOp) (rd : Reg) (a pc : ℕ) → Owned p → loaded_from own p o rd a pc b ≡ loaded_from all_words p o rd a pc b
  unfolding loaded_from loaded_from_row
  load_owned (Memory i) o rd a pc h = refl
  load_owned (Fuse k) o rd a pc h = let e = h k refl in rw (e.0, e.1)
  load_owned Misaligned o rd a pc h = refl
  load_owned Outside o rd a pc h = refl

  store_owned : (p : Place) (o : StoreOp) (v a pc : ℕ) → Owned p → stored_to own p o v a pc b ≡ stored_to all_words p o v a pc b
  unfolding stored_to stored_in_row
  store_owned (Memory i) o v a pc h = refl
  store_owned (Fuse k) o v a pc h = let e = h k refl in rw (e.0, e.1)
  store_owned Misaligned o v a pc h = refl
  store_owned Outside o v a pc h = refl

  pub act_owned : (a : Act) → ((k : ℕ) → There b a k → (owns own k ≡ true) × (owns all_words k ≡ true)) → performed own a b ≡ performed all_words a b
  unfolding performed
  act_owned (Sets rd v pc) h = refl
  act_owned (Loads o rd a pc) h = ap (λ e. outcome e b) (load_owned (load_place o a b) o rd a pc h)
  act_owned (Stores o v a pc) h = store_owned (store_place o a b) o v a pc h
  act_owned (Ends why) h = refl

pub stops_unowned : (w : World) → paused w ≡ true → ((stepped w).st.stop ≡ 11) ↔ ((k : ℕ) × There w.board (asked w) k × (owns w.grant.own k ≡ false))
unfolding stepped
stops_unowned w p = rw p (act_exactly w.grant.own w.board w.st (eqb-true _ _ p) (asked w) (asked-other w))
