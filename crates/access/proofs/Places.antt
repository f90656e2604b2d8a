-- The place that is asked for with an operation's width, and was found to be q; and what is loaded fits a register.
use Prim.Native.Nat.{ℕ, ◌*◌, ◌^◌, ◌<◌}
use native.Mathlib.Omega.{arith}
use mathlib.Core.Path.{◌≡◌, sym, ◌∙◌}
use Rattle.word.proofs.Signs.{sext_lt}
use Rattle.isa.specs.declared.LoadOp.{LoadOp}
use Rattle.isa.specs.declared.LoadOp.TheVariants.{Lb, Lh, Lw, Lbu, Lhu}
use Rattle.octets.specs.Widths.{width_bytes}
use Rattle.octets.specs.declared.Width.{Width}
use Rattle.place.specs.Map.{placed}
use Rattle.place.specs.declared.Place.{Place}
use Rattle.access.specs.Accesses.{load_width, extended}

pub place_is : {w v : Width} {p q : Place} (a size : ℕ) → w ≡ v → p ≡ placed (width_bytes w) a size → p ≡ q → placed (width_bytes v) a size ≡ q
place_is a width_bytes width place found = rw (← width) (sym place ∙ found)

-- what a load of so many bytes gives the register
pub extended_lt : (o : LoadOp) (v : ℕ) → v < 2 ^ (8 * width_bytes (load_width o)) → extended o v < 2 ^ 32
extended_lt Lb v h = sext_lt 8 v (omega arith) (omega arith) h
extended_lt Lh v h = sext_lt 16 v (omega arith) (omega arith) h
extended_lt Lw v h = h
extended_lt Lbu v h = omega arith
extended_lt Lhu v h = omega arith
