-- What a load or a store comes to, on the board b: main memory and the fuse row, of which only the words of the mask `own` may be loaded and stored.
use Rattle.std.specs.Prelude.{ℕ, cond, List, length, Ok, Err}
use Rattle.word.specs.Bits.{sext}
use Rattle.answers.specs.Outcomes.{Outcome, outcome}
use Rattle.answers.specs.Stops.{cause}
use Rattle.answers.specs.declared.Stop.TheVariants.{LoadMisaligned, LoadOutside, StoreMisaligned, StoreOutside, AlreadyBurnt, NotOwned}
use Rattle.isa.specs.declared.Reg.{Reg}
use Rattle.isa.specs.declared.LoadOp.{LoadOp}
use Rattle.isa.specs.declared.LoadOp.TheVariants.{Lb, Lh, Lw, Lbu, Lhu}
use Rattle.isa.specs.declared.StoreOp.{StoreOp}
use Rattle.isa.specs.declared.StoreOp.TheVariants.{Sb, Sh, Sw}
use Rattle.isa.specs.Registers.{x0}
use Rattle.octets.specs.Bytes.{load, store}
use Rattle.octets.specs.Widths.{width_bytes}
use Rattle.octets.specs.declared.Width.{Width}
use Rattle.octets.specs.declared.Width.TheVariants.{One, Two, Four}
use Rattle.place.specs.Map.{placed}
use Rattle.place.specs.declared.Place.{Place}
use Rattle.place.specs.declared.Place.TheVariants.{Memory, Fuse, Misaligned, Outside}
use Rattle.fuses.specs.Row.{Stored, value_at, word_stored, owns}
use Rattle.boards.specs.Boards.{Board, board}
use Rattle.access.specs.declared.Effect.{Effect}
use Rattle.access.specs.declared.Effect.TheVariants.{Next, Halt}

-- what an instruction comes to: its effect is the answer, with memory and row after it
abbrev pub Done : Type 0
Done = Outcome Effect Board

-- ---- loads

abbrev pub load_width : LoadOp → Width
load_width Lb = One
load_width Lh = Two
load_width Lw = Four
load_width Lbu = One
load_width Lhu = Two

-- lb and lh sign-extend to 32 bits, lbu and lhu zero-extend
abbrev pub extended : LoadOp → ℕ → ℕ
extended Lb v = sext 8 v
extended Lh v = sext 16 v
extended Lw v = v
extended Lbu v = v
extended Lhu v = v

-- from word k of the row f, at the address a: at a word that is not its own it stops
unfoldable pub loaded_from_row : ℕ → ℕ → Reg → ℕ → ℕ → List ℕ → Effect
loaded_from_row own k rd a next f = cond (owns own k) (Next rd (value_at k f) next) (Halt (cause NotOwned a))

-- rd gets what is at the place of the address a, and the next instruction is at next; a stop has the address
unfoldable pub loaded_from : ℕ → Place → LoadOp → Reg → ℕ → ℕ → Board → Effect
loaded_from own (Memory i) o rd a next b = Next rd (extended o (load (width_bytes (load_width o)) i b.mem)) next
loaded_from own (Fuse k) o rd a next b = loaded_from_row own k rd a next b.row
loaded_from own Misaligned o rd a next b = Halt (cause LoadMisaligned a)
loaded_from own Outside o rd a next b = Halt (cause LoadOutside a)

-- the place of the address a
abbrev pub load_place : LoadOp → ℕ → Board → Place
load_place o a b = placed (width_bytes (load_width o)) a (length b.mem)

abbrev pub loaded : ℕ → LoadOp → Reg → ℕ → ℕ → Board → Effect
loaded own o rd a next b = loaded_from own (load_place o a b) o rd a next b

-- ---- stores

abbrev pub store_width : StoreOp → Width
store_width Sb = One
store_width Sh = Two
store_width Sw = Four

-- a store that is done writes no register, for x0 drops the 0; the next instruction is at next
abbrev pub on_to : ℕ → Effect
on_to next = Next x0 0 next

-- what comes of a store to a word of the row at the address a: at a burnt word it stops
abbrev pub of_stored : Stored → ℕ → ℕ → Effect
of_stored (Ok u) a next = on_to next
of_stored (Err e) a next = Halt (cause AlreadyBurnt a)

-- to word k of the row f, at the address a: at a word that is not its own it stops, whatever v is
unfoldable pub stored_in_row : ℕ → ℕ → ℕ → ℕ → ℕ → List ℕ → Outcome Effect (List ℕ)
stored_in_row own k v a next f =
    cond (owns own k) (outcome (of_stored (word_stored k v f).answer a next) (word_stored k v f).lent) (outcome (Halt (cause NotOwned a)) f)

-- v goes to the place of the address a: into memory, or to a word of the row
unfoldable pub stored_to : ℕ → Place → StoreOp → ℕ → ℕ → ℕ → Board → Done
stored_to own (Memory i) o v a next b = outcome (on_to next) (board (store (width_bytes (store_width o)) i v b.mem) b.row)
stored_to own (Fuse k) o v a next b = outcome (stored_in_row own k v a next b.row).answer (board b.mem (stored_in_row own k v a next b.row).lent)
stored_to own Misaligned o v a next b = outcome (Halt (cause StoreMisaligned a)) b
stored_to own Outside o v a next b = outcome (Halt (cause StoreOutside a)) b

-- the place of the address a
abbrev pub store_place : StoreOp → ℕ → Board → Place
store_place o a b = placed (width_bytes (store_width o)) a (length b.mem)

abbrev pub stored : ℕ → StoreOp → ℕ → ℕ → ℕ → Board → Done
stored own o v a next b = stored_to own (store_place o a b) o v a next b
