-- What every step keeps: the state stays sound, and so does the board; so what an entry accepts it accepts again after any steps.
-- The argument: what an instruction computes fits, its next pc is even because every immediate of a decoded jump or branch is, and a store leaves a sound board.
use mathlib.Core.Path.{◌≡◌, refl, sym, subst, ◌∙◌}
use mathlib.Core.Bool.{true}
use mathlib.Core.Logic.{inl, inr, ⊎_elim}
use Prim.Native.Nat.{ℕ, zero, suc, ◌+◌, ◌-◌, ◌%◌, ◌^◌, ◌<◌}
use native.Mathlib.Omega.{arith}
use lib.Dec.{leb}
use lib.ListN.{length}
use borrow.Author.Tests.{eqb-true, ltb-true}
use Rattle.answers.specs.declared.Cause.{Cause}
use Rattle.word.proofs.Bools.{either, second}
use Rattle.word.proofs.Scatter.{low_lt}
use Rattle.word.proofs.Signs.{signed_lt}
use Rattle.isa.specs.declared.Reg.{Reg}
use Rattle.isa.specs.declared.Inst.{Inst}
use Rattle.isa.specs.declared.Inst.TheVariants.{Lui, Auipc, Jal, Jalr, Branch, Load, Store, Imm, Shift, Arith, Fence, Ecall, Ebreak, MulDiv}
use Rattle.isa.specs.Encoding.{reg_ok, signed_ok, in_range}
use Rattle.isa.specs.Registers.{x0}
use Rattle.octets.specs.Widths.{width_bytes}
use Rattle.octets.proofs.Bytes.{all-bytes}
use Rattle.state.specs.States.{register_of, state_checked}
use Rattle.state.proofs.Laws.{register_lt, form_passes, form_passed, formed_even, SoundState, SoundCause, Address, advanced_sound, halted_sound}
use Rattle.alu.specs.Arithmetic.{sum, takes}
use Rattle.alu.proofs.Bounds.{arith_lt, imm_lt, shift_lt, muldiv_lt}
use Rattle.boards.specs.Boards.{disjoint}
use Rattle.boards.proofs.Boards.{SoundBoard, start_accepted, start_passes, sound_store, sound_burnt}
use Rattle.access.specs.Accesses.{Done, store_width}
use Rattle.execute.specs.declared.Act.{Act}
use Rattle.execute.specs.declared.Act.TheVariants.{Sets, Loads, Stores, Ends}
use Rattle.execute.specs.Execution.{evened, act_of}
use Rattle.execute.proofs.Acts.{Comes, sets, loads, into_memory, into_row, zero_into_row, stops, StopsBy}
use Rattle.fetch.proofs.Laws.{FailsBy, fetch_fails, fetched_real}
use Rattle.engine.specs.Steps.{World, Sized, checked, asked, applied, after, stepped, ran}
use Rattle.engine.proofs.Walk.{by_asked, walk}
use Rattle.answers.specs.Checks.{passed}

-- ---- what is kept

-- what holds at every accepted start, and after every step from one
abbrev pub Runnable : World → Type 0
Runnable w = SoundState w.st × SoundBoard w.board × (disjoint w.grant ≡ true)

-- it is what the entries ask, with what the types say
pub runnable_passes : (w : World) → Runnable w → checked w ≡ passed
runnable_passes w g = start_passes w.board w.grant (state_checked w.st) g.1.1 g.2 ∙ form_passes true w.st refl g.0.1

pub passes_runnable : (w : World) → Sized w → checked w ≡ passed → Runnable w
passes_runnable w z e =
    let b = start_accepted w.board w.grant (state_checked w.st) e in
    ((z.state_fits, (form_passed true w.st b.2).1), (z.board_fits, b.0), b.1)

-- ---- what a step asks for

-- where the next instruction can be, from a count of n
abbrev Onward : ℕ → ℕ → Type 0
Onward n pc = Address pc × (n < 2 ^ 64 - 1)

abbrev ActFits : ℕ → Act → Type 0
ActFits n (Sets rd v pc) = (v < 2 ^ 32) × Onward n pc
ActFits n (Loads o rd a pc) = (a < 2 ^ 32) × Onward n pc
ActFits n (Stores o v a pc) = (a < 2 ^ 32) × Onward n pc
ActFits n (Ends why) = SoundCause why

module _ (w : World) (g : Runnable w) where
  read_lt : (r : Reg) → register_of w.st.x r < 2 ^ 32
  read_lt r = register_lt w.st.x r g.0.0.x_fits

  module _ (room : w.st.count < 2 ^ 64 - 1) where
    aside : (n : ℕ) → n % 2 ≡ 0 → Onward w.st.count (sum w.st.pc n)
    aside n h = let e = formed_even w.st g.0.1 in ((low_lt (w.st.pc + n) 32, omega arith), room)

    cleared : (a b : ℕ) → Onward w.st.count (evened (sum a b))
    cleared a b = let l = low_lt (a + b) 32 in ((omega arith, omega arith), room)

    -- an instruction that has a word
    inst_fits : (i : Inst) (to : ℕ) → in_range i ≡ true → Onward w.st.count to → ActFits w.st.count (act_of i to w.st.pc w.st.x)
    unfolding act_of in_range
    inst_fits (Lui rd field) to h t = (low_lt _ 32, t)
    inst_fits (Auipc rd field) to h t = (low_lt _ 32, t)
    inst_fits (Jal rd imm) to h t = (t.0.0, aside imm (eqb-true (imm % 2) 0 (second (signed_ok 21 imm) _ (second (reg_ok rd) _ h))))
    inst_fits (Jalr rd rs1 imm) to h t = (t.0.0, cleared (register_of w.st.x rs1) imm)
    inst_fits (Branch o rs1 rs2 imm) to h t =
        let even : imm % 2 ≡ 0 = eqb-true (imm % 2) 0 (second (signed_ok 13 imm) _ (second (reg_ok rs2) _ (second (reg_ok rs1) _ h))) in
        (omega arith, either (Onward w.st.count) (takes o (register_of w.st.x rs1) (register_of w.st.x rs2)) _ _ (aside imm even) t)
    inst_fits (Load o rd rs1 imm) to h t = (low_lt _ 32, t)
    inst_fits (Store o rs1 rs2 imm) to h t = (low_lt _ 32, t)
    inst_fits (Imm o rd rs1 imm) to h t =
        (imm_lt o _ imm (read_lt rs1) (signed_lt 12 imm (omega arith) (omega arith) (second (reg_ok rs1) _ (second (reg_ok rd) _ h))), t)
    inst_fits (Shift o rd rs1 shamt) to h t =
        let s : shamt < 32 = ltb-true shamt 32 (second (reg_ok rs1) _ (second (reg_ok rd) _ h)) in
        (shift_lt o _ shamt (read_lt rs1) (omega arith), t)
    inst_fits (Arith o rd rs1 rs2) to h t = (arith_lt o _ _ (read_lt rs1) (read_lt rs2), t)
    inst_fits (Fence rd rs1 field) to h t = (omega arith, t)
    inst_fits Ecall to h t = (omega arith, refl)
    inst_fits Ebreak to h t = (omega arith, refl)
    inst_fits (MulDiv o rd rs1 rs2) to h t = (muldiv_lt o _ _ (read_lt rs1) (read_lt rs2), t)

  -- the address of a halfword that could not be fetched fits
  fail_fits : (why : Cause) → FailsBy w.st.pc w.board.mem why → SoundCause why
  fail_fits why (inl e) = rw e (g.0.0.pc_fits, refl)
  fail_fits why (inr e) =
      rw e (either (λ a. a < 2 ^ 32) (leb (w.st.pc + 2) (length w.board.mem)) _ _ (low_lt (w.st.pc + 2) 32) g.0.0.pc_fits, refl)

  -- an instruction that is fetched is in range, of an even length
  asked-fits : ActFits w.st.count (asked w)
  asked-fits =
      by_asked w (ActFits w.st.count) (omega arith, refl) (λ why e. fail_fits why (fetch_fails w.st.pc w.board.mem e))
      (λ i len room e.
      let r = fetched_real w.st.pc w.board.mem (all-bytes w.board.mem g.1.0.mem_bytes) e in
      inst_fits room i (sum w.st.pc len) r.in_range_lem (aside room len (⊎_elim (λ k. omega arith) (λ k. omega arith) r.size)))

  -- ---- what comes of it

  stop_fits : (a : Act) (why : Cause) → StopsBy a why → ActFits w.st.count a → SoundCause why
  stop_fits (Sets rd v pc) why by h = absurd by
  stop_fits (Loads o rd a pc) why (inl e) h = rw e (h.0, refl)
  stop_fits (Loads o rd a pc) why (inr (inl e)) h = rw e (h.0, refl)
  stop_fits (Loads o rd a pc) why (inr (inr e)) h = rw e (h.0, refl)
  stop_fits (Stores o v a pc) why (inl e) h = rw e (h.0, refl)
  stop_fits (Stores o v a pc) why (inr (inl e)) h = rw e (h.0, refl)
  stop_fits (Stores o v a pc) why (inr (inr (inl e))) h = rw e (h.0, refl)
  stop_fits (Stores o v a pc) why (inr (inr (inr e))) h = rw e (h.0, refl)
  stop_fits (Ends c) why by h = subst SoundCause (sym by) h

  runnable_after : {a : Act} {d : Done} → Comes w.grant.own w.board a d → ActFits w.st.count a → Runnable (after d w)
  unfolding applied
  runnable_after (sets rd v pc) h = (advanced_sound rd v pc w.st h.0 h.1.0 h.1.1 g.0, g.1, g.2)
  runnable_after (loads o rd a pc v fits) h = (advanced_sound rd v pc w.st (fits g.1.0) h.1.0 h.1.1 g.0, g.1, g.2)
  runnable_after (into_memory o v a pc i e inside) h =
      (advanced_sound x0 0 pc w.st (omega arith) h.1.0 h.1.1 g.0, sound_store (width_bytes (store_width o)) i v w.board inside g.1, g.2)
  runnable_after (into_row o v a pc k e below mine z ne) h =
      (advanced_sound x0 0 pc w.st (omega arith) h.1.0 h.1.1 g.0, sound_burnt k v w.board below ne g.1, g.2)
  runnable_after (zero_into_row o v a pc k e z) h = (advanced_sound x0 0 pc w.st (omega arith) h.1.0 h.1.1 g.0, g.1, g.2)
  runnable_after (stops a why by) h = (halted_sound why w.st (stop_fits a why by h) g.0, g.1, g.2)

  runnable_step : Runnable (stepped w)
  runnable_step = walk w (λ c v. Runnable v) (λ e. g) (λ e d c. runnable_after c asked-fits)

pub runnable_ran : (n : ℕ) (w : World) → Runnable w → Runnable (ran n w)
unfolding ran
runnable_ran zero w g = g
runnable_ran (suc n) w g = runnable_ran n (stepped w) (runnable_step w g)
