-- What comes of an act, in six ways, by cases over the place of its access and the mask. The laws of a step go by these ways.
use mathlib.Core.Path.{◌≡◌, refl}
use mathlib.Core.Bool.{Bool, true, false, cond}
use mathlib.Core.List.{List}
use mathlib.Core.Logic.{◌⊎◌, inl, inr}
use Prim.Native.Nat.{ℕ, ◌+◌, ◌*◌, ◌^◌, ◌≤◌, ◌<◌}
use lib.ListN.{length}
use Rattle.answers.specs.Outcomes.{Outcome, outcome}
use Rattle.word.specs.Bits.{low}
use Rattle.answers.specs.Stops.{cause, nowhere}
use Rattle.answers.specs.declared.Cause.{Cause}
use Rattle.answers.specs.declared.Stop.TheVariants as S
use Rattle.isa.specs.declared.Reg.{Reg}
use Rattle.isa.specs.declared.Inst.{Inst}
use Rattle.isa.specs.declared.Inst.TheVariants.{Lui, Auipc, Jal, Jalr, Branch, Load, Store, Imm, Shift, Arith, Fence, Ecall, Ebreak, MulDiv}
use Rattle.isa.specs.declared.LoadOp.{LoadOp}
use Rattle.isa.specs.declared.StoreOp.{StoreOp}
use Rattle.octets.specs.Bytes.{store}
use Rattle.octets.specs.Widths.{width_bytes}
use Rattle.octets.proofs.Bytes.{load_lt}
use Rattle.place.specs.declared.Place.{Place}
use Rattle.place.specs.declared.Place.TheVariants.{Memory, Fuse, Misaligned, Outside}
use Rattle.place.proofs.Placed.{placed_memory, placed_fuse}
use Rattle.fuses.specs.Row.{Stored, value_at, mark_at, burnt, word_stored, owns}
use Rattle.fuses.proofs.Burning.{WordStores, burns, no_pulse, refused, stores_as}
use Rattle.boards.specs.Boards.{Board, board, BoardFits}
use Rattle.access.specs.declared.Effect.{Effect}
use Rattle.access.specs.declared.Effect.TheVariants.{Next, Halt}
use Rattle.access.specs.Accesses.{Done, load_width, loaded_from_row, loaded_from, load_place, store_width, on_to, of_stored, stored_in_row, stored_to, store_place}
use Rattle.access.proofs.Places.{extended_lt}
use Rattle.execute.specs.declared.Act.{Act}
use Rattle.execute.specs.declared.Act.TheVariants.{Sets, Loads, Stores, Ends}
use Rattle.execute.specs.Execution.{act_of, performed}

-- why an act can stop: an access at the address accessed
abbrev pub StopsBy : Act → Cause → Type 0
StopsBy (Sets rd v pc) why = ⊥
StopsBy (Loads o rd a pc) why = (why ≡ cause S.LoadMisaligned a) ⊎ (why ≡ cause S.LoadOutside a) ⊎ (why ≡ cause S.NotOwned a)
StopsBy (Stores o v a pc) why = (why ≡ cause S.StoreMisaligned a) ⊎ (why ≡ cause S.StoreOutside a) ⊎ (why ≡ cause S.NotOwned a) ⊎ (why ≡ cause S.AlreadyBurnt a)
StopsBy (Ends c) why = why ≡ c

-- the ways in which an act of a run with these own words can end on the board b: each act comes to one of them, and what it comes to is no more than this says
pub data Comes (own : ℕ) (b : Board) : Act → Done → Type 0 where
  sets : (rd : Reg) (v pc : ℕ) → Comes own b (Sets rd v pc) (outcome (Next rd v pc) b)
  -- what is loaded fits, for bytes are bytes
  loads : (o : LoadOp) (rd : Reg) (a pc v : ℕ) → (BoardFits b → v < 2 ^ 32) → Comes own b (Loads o rd a pc) (outcome (Next rd v pc) b)
  into_memory : (o : StoreOp) (v a pc i : ℕ) → store_place o a b ≡ Memory i → i + width_bytes (store_width o) ≤ length b.mem
      → Comes own b (Stores o v a pc) (outcome (on_to pc) (board (store (width_bytes (store_width o)) i v b.mem) b.row))
  into_row : (o : StoreOp) (v a pc k : ℕ) → store_place o a b ≡ Fuse k → k < 64 → owns own k ≡ true → mark_at k b.row ≡ 0 → (low 32 v ≡ 0 → ⊥)
      → Comes own b (Stores o v a pc) (outcome (on_to pc) (board b.mem (burnt k v b.row)))
  -- zero to a word of the row
  zero_into_row : (o : StoreOp) (v a pc k : ℕ) → store_place o a b ≡ Fuse k → low 32 v ≡ 0 → Comes own b (Stores o v a pc) (outcome (on_to pc) b)
  stops : (a : Act) (why : Cause) → StopsBy a why → Comes own b a (outcome (Halt why) b)

module _ (own : ℕ) (b : Board) where
  load_comes : (p : Place) (o : LoadOp) (rd : Reg) (a pc : ℕ) → Comes own b (Loads o rd a pc) (outcome (loaded_from own p o rd a pc b) b)
  unfolding loaded_from loaded_from_row
  load_comes (Memory i) o rd a pc = loads o rd a pc _ (λ f. extended_lt o _ (load_lt (width_bytes (load_width o)) i b.mem f.mem_bytes))
  load_comes (Fuse k) o rd a pc = go (owns own k)
    where
      go : (mine : Bool) → Comes own b (Loads o rd a pc) (outcome (cond mine (Next rd (value_at k b.row) pc) (Halt (cause S.NotOwned a))) b)
      go true = loads o rd a pc _ (λ f. load_lt 4 (8 * k) b.row f.row_bytes)
      go false = stops (Loads o rd a pc) (cause S.NotOwned a) (inr (inr refl))
  load_comes Misaligned o rd a pc = stops (Loads o rd a pc) (cause S.LoadMisaligned a) (inl refl)
  load_comes Outside o rd a pc = stops (Loads o rd a pc) (cause S.LoadOutside a) (inr (inl refl))

  store_comes : (p : Place) (o : StoreOp) (v a pc : ℕ) → store_place o a b ≡ p → Comes own b (Stores o v a pc) (stored_to own p o v a pc b)
  unfolding stored_to stored_in_row
  store_comes (Memory i) o v a pc e = into_memory o v a pc i e (placed_memory _ a _ i e).1
  store_comes (Fuse k) o v a pc e = go (owns own k) refl
    where
      done : owns own k ≡ true → {d : Outcome Stored (List ℕ)} → WordStores k v b.row d
          → Comes own b (Stores o v a pc) (outcome (of_stored d.answer a pc) (board b.mem d.lent))
      done mine (burns z ne) = into_row o v a pc k e (placed_fuse _ a _ k e) mine z ne
      done mine (no_pulse z) = zero_into_row o v a pc k e z
      done mine refused = stops (Stores o v a pc) (cause S.AlreadyBurnt a) (inr (inr (inr refl)))

      in_row : Bool → Outcome Effect (List ℕ)
      in_row mine = cond mine (outcome (of_stored (word_stored k v b.row).answer a pc) (word_stored k v b.row).lent) (outcome (Halt (cause S.NotOwned a)) b.row)

      go : (mine : Bool) → owns own k ≡ mine
          → Comes own b (Stores o v a pc) (outcome (in_row mine).answer (board b.mem (in_row mine).lent))
      go true mine = done mine (stores_as k v b.row)
      go false mine = stops (Stores o v a pc) (cause S.NotOwned a) (inr (inr (inl refl)))
  store_comes Misaligned o v a pc e = stops (Stores o v a pc) (cause S.StoreMisaligned a) (inl refl)
  store_comes Outside o v a pc e = stops (Stores o v a pc) (cause S.StoreOutside a) (inr (inl refl))

  pub comes : (a : Act) → Comes own b a (performed own a b)
  unfolding performed
  comes (Sets rd v pc) = sets rd v pc
  comes (Loads o rd a pc) = load_comes (load_place o a b) o rd a pc
  comes (Stores o v a pc) = store_comes (store_place o a b) o v a pc refl
  comes (Ends why) = stops (Ends why) why refl

-- ---- an instruction that ends a run does so by ecall or ebreak, which have no address

abbrev pub EndsBare : Act → Type 0
EndsBare (Sets rd v pc) = Unit {0}
EndsBare (Loads o rd a pc) = Unit {0}
EndsBare (Stores o v a pc) = Unit {0}
EndsBare (Ends why) = (why ≡ nowhere S.Ecall) ⊎ (why ≡ nowhere S.Ebreak)

pub ends_bare : (i : Inst) (to pc : ℕ) (x : List ℕ) → EndsBare (act_of i to pc x)
unfolding act_of
ends_bare (Lui rd field) to pc x = tt
ends_bare (Auipc rd field) to pc x = tt
ends_bare (Jal rd imm) to pc x = tt
ends_bare (Jalr rd rs1 imm) to pc x = tt
ends_bare (Branch o rs1 rs2 imm) to pc x = tt
ends_bare (Load o rd rs1 imm) to pc x = tt
ends_bare (Store o rs1 rs2 imm) to pc x = tt
ends_bare (Imm o rd rs1 imm) to pc x = tt
ends_bare (Shift o rd rs1 shamt) to pc x = tt
ends_bare (Arith o rd rs1 rs2) to pc x = tt
ends_bare (Fence rd rs1 field) to pc x = tt
ends_bare Ecall to pc x = inl refl
ends_bare Ebreak to pc x = inr refl
ends_bare (MulDiv o rd rs1 rs2) to pc x = tt
