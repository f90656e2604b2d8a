-- Both forms of an instruction are fetched as that instruction; what it asks for has its length only where the table says, and no access looks at where the next instruction is.
use Rattle.std.specs.Prelude.{Ok, Err}
use mathlib.Core.Path.{◌≡◌, refl, sym, ap, ◌∙◌}
use mathlib.Core.Bool.{Bool, true, false, cond, not}
use mathlib.Core.List.{List}
use Prim.Native.Nat.{ℕ, ◌+◌, ◌%◌}
use native.Mathlib.Omega.{arith}
use borrow.Author.Tests.{le-leb}
use Rattle.answers.specs.Outcomes.{Outcome, outcome}
use Rattle.answers.specs.Stops.{cause}
use Rattle.answers.specs.declared.Stop.TheVariants.{NotOwned}
use Rattle.answers.proofs.Order.{apart}
use Rattle.isa.specs.declared.Reg.{Reg}
use Rattle.isa.specs.declared.Inst.TheVariants.{Lui, Auipc, Jal, Jalr, Branch, Load, Store, Imm, Shift, Arith, Fence, Ecall, Ebreak, MulDiv}
use Rattle.isa.specs.declared.LoadOp.{LoadOp}
use Rattle.isa.specs.declared.StoreOp.{StoreOp}
use Rattle.isa.specs.Registers.{x0}
use Rattle.isa.specs.Decoding.{decoded}
use Rattle.isa.specs.Rvc.{expanded}
use Rattle.octets.specs.Bytes.{load}
use Rattle.octets.proofs.Bytes.{load-add}
use Rattle.place.specs.declared.Place.{Place}
use Rattle.place.specs.declared.Place.TheVariants.{Memory, Fuse, Misaligned, Outside}
use Rattle.fuses.specs.Row.{Stored, value_at, word_stored, owns}
use Rattle.alu.specs.Arithmetic.{sum, takes}
use Rattle.state.specs.States.{register_of}
use Rattle.boards.specs.Boards.{Board, board}
use Rattle.access.specs.declared.Effect.{Effect}
use Rattle.access.specs.declared.Effect.TheVariants.{Next, Halt}
use Rattle.access.specs.Accesses.{Done, load_place, loaded_from_row, loaded_from, store_place, of_stored, stored_in_row, stored_to}
use Rattle.execute.specs.Execution.{act_of, performed}
use Rattle.fetch.proofs.Laws.{fetch_short, fetch_long}
use Rattle.engine.specs.Steps.{act_fetched}
use Rattle.promises_codes.proofs.Readings.{legal-is}
use Rattle.promises_codes.proofs.Instructions.{other_width, decode_of_encode, legal-long}
use Rattle.promises.specs.Lengths.{Shows, ending_at, LengthOnly, ShortActsAsLong}

-- ---- accesses

abbrev next_alone : Shows
next_alone = record { value = false; next = true }

abbrev onward : ℕ → Done → Done
onward to d = outcome (ending_at to next_alone d.answer) d.lent

load-onward : (own : ℕ) (p : Place) (o : LoadOp) (rd : Reg) (a m n : ℕ) (b : Board) → loaded_from own p o rd a m b ≡ ending_at m next_alone (loaded_from own p o rd a n b)
unfolding loaded_from loaded_from_row
load-onward own (Memory i) o rd a m n b = refl
load-onward own (Fuse k) o rd a m n b = go (owns own k)
  where
    go : (mine : Bool)
        → cond mine (Next rd (value_at k b.row) m) (Halt (cause NotOwned a)) ≡ ending_at m next_alone (cond mine (Next rd (value_at k b.row) n) (Halt (cause NotOwned a)))
    go true = refl
    go false = refl
load-onward own Misaligned o rd a m n b = refl
load-onward own Outside o rd a m n b = refl

store-onward : (own : ℕ) (p : Place) (o : StoreOp) (v a m n : ℕ) (b : Board) → stored_to own p o v a m b ≡ onward m (stored_to own p o v a n b)
unfolding stored_to stored_in_row
store-onward own (Memory i) o v a m n b = refl
store-onward own (Fuse k) o v a m n b = by_mask (owns own k)
  where
    in_row : Bool → ℕ → Outcome Effect (List ℕ)
    in_row mine next = cond mine (outcome (of_stored (word_stored k v b.row).answer a next) (word_stored k v b.row).lent) (outcome (Halt (cause NotOwned a)) b.row)

    go : (r : Stored) → of_stored r a m ≡ ending_at m next_alone (of_stored r a n)
    go (Ok u) = refl
    go (Err e) = refl

    by_mask : (mine : Bool) → outcome (in_row mine m).answer (board b.mem (in_row mine m).lent) ≡ onward m (outcome (in_row mine n).answer (board b.mem (in_row mine n).lent))
    by_mask true = ap (λ e. outcome e (board b.mem (word_stored k v b.row).lent)) (go (word_stored k v b.row).answer)
    by_mask false = refl
store-onward own Misaligned o v a m n b = refl
store-onward own Outside o v a m n b = refl

branch_onward : (t : Bool) (to m n : ℕ) (b : Board)
    → outcome (Next x0 0 (cond t to m)) b ≡ outcome (ending_at m (record { value = false; next = not t }) (Next x0 0 (cond t to n))) b
branch_onward true to m n b = refl
branch_onward false to m n b = refl

-- ---- the promises

pub length_only : LengthOnly
unfolding act_fetched act_of performed
length_only own (Lui rd field) m n pc x b = refl
length_only own (Auipc rd field) m n pc x b = refl
length_only own (Jal rd imm) m n pc x b = refl
length_only own (Jalr rd rs1 imm) m n pc x b = refl
length_only own (Branch o rs1 rs2 imm) m n pc x b = branch_onward (takes o (register_of x rs1) (register_of x rs2)) (sum pc imm) (sum pc m) (sum pc n) b
length_only own (Load o rd rs1 imm) m n pc x b =
    ap (λ e. outcome e b) (load-onward own (load_place o (sum (register_of x rs1) imm) b) o rd (sum (register_of x rs1) imm) (sum pc m) (sum pc n) b)
length_only own (Store o rs1 rs2 imm) m n pc x b =
    store-onward own (store_place o (sum (register_of x rs1) imm) b) o (register_of x rs2) (sum (register_of x rs1) imm) (sum pc m) (sum pc n) b
length_only own (Imm o rd rs1 imm) m n pc x b = refl
length_only own (Shift o rd rs1 shamt) m n pc x b = refl
length_only own (Arith o rd rs1 rs2) m n pc x b = refl
length_only own (Fence rd rs1 field) m n pc x b = refl
length_only own Ecall m n pc x b = refl
length_only own Ebreak m n pc x b = refl
length_only own (MulDiv o rd rs1 rs2) m n pc x b = refl

pub short_acts_as_long : ShortActsAsLong
short_acts_as_long own i pc x m2 m4 b l2 short l4 long =
    let half = load 2 pc m2 in
    let word = load 4 pc m4 in
    let d = decode_of_encode i word long in
    let low = legal-long word i d in
    let e = load-add 2 2 pc m4 (omega arith) in
    let is-short : half % 4 ≡ 3 → ⊥ = λ t. apart (sym short ∙ other_width.1 half t) in
    rw (
      fetch_short pc m2 l2 refl (λ t. is-short (omega arith)) is-short (sym (legal-is (expanded half) i short)),
      fetch_long pc m4 (omega arith) refl (λ t. omega arith) (omega arith),
      le-leb (pc + 4) _ l4,
      legal-is (decoded word) i d,
    )
    (refl, refl, length_only own i 2 4 pc x b)
