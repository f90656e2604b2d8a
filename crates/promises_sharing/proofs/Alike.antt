-- Two boards with one memory, whose rows agree on the own words: what an act asks of them comes to the same, for it reads and burns own words only, and leaves them so. Hence two worlds in one state stay alike over any steps.
use mathlib.Core.Path.{◌≡◌, refl, sym, ap, ap₂, subst}
use mathlib.Core.Bool.{Bool, true, false, cond, ◌&&◌}
use mathlib.Core.List.{List}
use Prim.Native.Nat.{ℕ, zero, suc, ◌+◌, ◌-◌, ◌*◌, ◌/◌, ◌^◌, ◌≤◌, ◌<◌}
use native.Mathlib.Omega.{arith}
use lib.ListN.{length}
use lib.Dec.{eqb, ltb}
use Rattle.answers.specs.Outcomes.{Outcome, outcome}
use Rattle.answers.specs.Stops.{cause, nowhere}
use Rattle.answers.specs.declared.Stop.TheVariants as S
use Rattle.word.specs.Bits.{flag, low}
use Rattle.octets.specs.Bytes.{load}
use Rattle.place.specs.declared.Place.{Place}
use Rattle.place.specs.declared.Place.TheVariants.{Memory, Fuse, Misaligned, Outside}
use Rattle.place.proofs.Placed.{placed_fuse}
use Rattle.fuses.specs.Row.{Stored, done, already_burnt, value_at, mark_at, burnt, word_stored, owns}
use Rattle.fuses.proofs.Rows.{length-burnt}
use Rattle.state.specs.declared.State.{State}
use Rattle.boards.specs.Boards.{Board, board}
use Rattle.access.specs.declared.Effect.{Effect}
use Rattle.access.specs.declared.Effect.TheVariants.{Next, Halt}
use Rattle.access.specs.Accesses as A
use Rattle.execute.specs.declared.Act.{Act}
use Rattle.execute.specs.declared.Act.TheVariants.{Sets, Loads, Stores, Ends}
use Rattle.execute.specs.Execution.{performed}
use Rattle.engine.specs.Steps.{World, act_at, asked, step_done, applied, after, paused, stepped, ran, goes_on, completes, retired}
use Rattle.promises_sharing.specs.Sharing.{Mine, Agree}
use Rattle.promises_sharing.proofs.Agreeing.{agree_load, agree_burnt}

-- ---- boards

pub record Peers (own : ℕ) (b c : Board) : Type 0 where
  pub mem : b.mem ≡ c.mem
  pub row : Agree (Mine own) b.row c.row
  pub long : length b.row ≡ 512

abbrev Likewise : ℕ → A.Done → A.Done → Type 0
Likewise own d e = (d.answer ≡ e.answer) × Peers own d.lent e.lent

module _ (own : ℕ) (m f g : List ℕ) (r : Agree (Mine own) f g) (l : length f ≡ 512) where
  still : Peers own (board m f) (board m g)
  still = record { mem = refl; row = r; long = l }

  -- n bytes of an own word
  in_word : (k n a : ℕ) → owns own k ≡ true → 8 * k ≤ a → a + n ≤ 8 * k + 8 → load n a f ≡ load n a g
  in_word k n a mine s t = agree_load n a r (λ i q. let d : (a + i) / 8 ≡ k = omega arith in rw d mine)

  -- a store to an own word
  word_alike : (k v : ℕ) → k < 64 → owns own k ≡ true
      → ((word_stored k v f).answer ≡ (word_stored k v g).answer) × Agree (Mine own) (word_stored k v f).lent (word_stored k v g).lent × (length (word_stored k v f).lent ≡ 512)
  unfolding word_stored
  word_alike k v h mine = rw (← (in_word k 1 (8 * k + 4) mine (omega arith) (omega arith))) (go (eqb (mark_at k f) 0) (eqb (low 32 v) 0))
    where
      word_by : Bool → Bool → List ℕ → Outcome Stored (List ℕ)
      word_by blank none row = cond blank (outcome done (cond none row (burnt k v row))) (outcome already_burnt row)

      go : (s t : Bool)
          → ((word_by s t f).answer ≡ (word_by s t g).answer) × Agree (Mine own) (word_by s t f).lent (word_by s t g).lent × (length (word_by s t f).lent ≡ 512)
      go true true = (refl, r, l)
      go true false = (refl, agree_burnt k v h l r, length-burnt k v f h l)
      go false t = (refl, r, l)

  act_alike : (a : Act) → Likewise own (performed own a (board m f)) (performed own a (board m g))
  unfolding performed A.loaded_from A.loaded_from_row A.stored_to A.stored_in_row
  act_alike (Sets rd v pc) = (refl, still)
  act_alike (Loads o rd a pc) = (go (A.load_place o a (board m f)), still)
    where
      load_by : Bool → ℕ → Effect
      load_by mine v = cond mine (Next rd v pc) (Halt (cause S.NotOwned a))

      load_in_row : (k : ℕ) (mine : Bool) → owns own k ≡ mine → load_by mine (value_at k f) ≡ load_by mine (value_at k g)
      load_in_row k true e = ap (λ v. Next rd v pc) (in_word k 4 (8 * k) e (omega arith) (omega arith))
      load_in_row k false e = refl

      go : (p : Place) → A.loaded_from own p o rd a pc (board m f) ≡ A.loaded_from own p o rd a pc (board m g)
      go (Memory i) = refl
      go (Fuse k) = load_in_row k (owns own k) refl
      go Misaligned = refl
      go Outside = refl
  act_alike (Stores o v a pc) = go (A.store_place o a (board m f)) refl
    where
      store_by : ℕ → Bool → List ℕ → Outcome Effect (List ℕ)
      store_by k mine row = cond mine (outcome (A.of_stored (word_stored k v row).answer a pc) (word_stored k v row).lent) (outcome (Halt (cause S.NotOwned a)) row)

      store_in_row : (k : ℕ) (mine : Bool) → k < 64 → owns own k ≡ mine
          → ((store_by k mine f).answer ≡ (store_by k mine g).answer) × Peers own (board m (store_by k mine f).lent) (board m (store_by k mine g).lent)
      store_in_row k true h e = let w = word_alike k v h e in (ap (λ s. A.of_stored s a pc) w.0, record { mem = refl; row = w.1; long = w.2 })
      store_in_row k false h e = (refl, still)

      go : (p : Place) → A.store_place o a (board m f) ≡ p → Likewise own (A.stored_to own p o v a pc (board m f)) (A.stored_to own p o v a pc (board m g))
      go (Memory i) e = (refl, record { mem = refl; row = r; long = l })
      go (Fuse k) e = store_in_row k (owns own k) (placed_fuse _ a _ k e) refl
      go Misaligned e = (refl, still)
      go Outside e = (refl, still)
  act_alike (Ends why) = (refl, still)

-- ---- worlds in one state, with these own words

pub record Alike (own : ℕ) (v w : World) : Type 0 where
  pub st : v.st ≡ w.st
  pub left : v.grant.own ≡ own
  pub right : w.grant.own ≡ own
  pub peers : Peers own v.board w.board

done_alike : {own : ℕ} {v w : World} → Alike own v w → Likewise own (step_done v) (step_done w)
unfolding asked
done_alike {own} {v} {w} a =
    let e : asked v ≡ asked w =
    ap₂ (λ (s : State) m. cond (ltb s.count (2 ^ 64 - 1)) (act_at s.pc s.x m) (Ends (nowhere S.CountFull))) a.st a.peers.mem in
    subst (λ (o : A.Done × A.Done). Likewise own o.0 o.1)
    (λ j. (performed (sym a.left j) (asked v) v.board, performed (sym a.right j) (e j) (board (a.peers.mem j) w.board.row)))
    (act_alike own v.board.mem v.board.row w.board.row a.peers.row a.peers.long (asked v))

step_alike : {own : ℕ} {v w : World} → Alike own v w → Alike own (stepped v) (stepped w) × (completes v ≡ completes w)
unfolding stepped
step_alike {own} {v} {w} a = let t : paused v ≡ paused w = ap (λ (s : State). eqb s.stop 0) a.st in rw (← t) (go (paused v))
  where
    go : (b : Bool)
        → Alike own (cond b (after (step_done v) v) v) (cond b (after (step_done w) w) w) × ((b && goes_on (step_done v).answer) ≡ (b && goes_on (step_done w).answer))
    go true = let d = done_alike a in (record { st = ap₂ applied d.0 a.st; left = a.left; right = a.right; peers = d.1 }, ap goes_on d.0)
    go false = (a, refl)

pub run_alike : (n : ℕ) {own : ℕ} {v w : World} → Alike own v w → Alike own (ran n v) (ran n w) × (retired n v ≡ retired n w)
unfolding ran retired
run_alike zero a = (a, refl)
run_alike (suc n) a = let s = step_alike a in let i = run_alike n s.0 in (i.0, ap₂ (λ b k. flag b + k) s.1 i.1)
