-- The paper's memory map: "Everything else is outside, and so is an access not wholly within one of the two." An access has the width of an operation, 1, 2 or 4 bytes.
-- Each statement is proved in proofs/Places.antt.
use Rattle.std.specs.Prelude.{◌≡◌, ◌↔◌, ℕ, ◌+◌, ◌*◌, ◌%◌, ◌≤◌, ◌<◌}
use Rattle.octets.specs.declared.Width.{Width}
use Rattle.octets.specs.Widths.{width_bytes}
use Rattle.place.specs.Map.{placed}
use Rattle.place.specs.declared.Place.TheVariants.{Memory, Fuse, Misaligned, Outside}
use Rattle.boards.specs.Boards.{longest_memory}

abbrev pub Aligned : Width → ℕ → Type 0
Aligned w a = a % width_bytes w ≡ 0

-- wholly within a memory of so many bytes
abbrev pub WithinMemory : Width → ℕ → ℕ → Type 0
WithinMemory w a size = a + width_bytes w ≤ size

-- the word k of the fuse window: a word access at its address
abbrev pub FuseWord : Width → ℕ → ℕ → Type 0
FuseWord w a k = (width_bytes w ≡ 4) × (k < 64) × (a ≡ 0x80000000 + 4 * k)

-- ---- where an access of w at a lies, in a memory that the entries accept

abbrev pub MemoryExactly : Type 0
MemoryExactly = (w : Width) (a size i : ℕ) → (placed (width_bytes w) a size ≡ Memory i) ↔ (Aligned w a × WithinMemory w a size × (i ≡ a))

abbrev pub FuseExactly : Type 0
FuseExactly = (w : Width) (a size k : ℕ) → size ≤ longest_memory → (placed (width_bytes w) a size ≡ Fuse k) ↔ FuseWord w a k

-- whatever else it is
abbrev pub MisalignedExactly : Type 0
MisalignedExactly = (w : Width) (a size : ℕ) → (placed (width_bytes w) a size ≡ Misaligned) ↔ (Aligned w a → ⊥)

-- exactly otherwise
abbrev pub OutsideExactly : Type 0
OutsideExactly =
    (w : Width) (a size : ℕ)
    → (placed (width_bytes w) a size ≡ Outside) ↔ (Aligned w a × (WithinMemory w a size → ⊥) × ((k : ℕ) → FuseWord w a k → ⊥))
