-- Laws of the memory map: what follows from where an access lies, by cases on the map's three tests.
use Prim.Native.Nat.{ℕ, ◌+◌, ◌-◌, ◌/◌, ◌%◌, ◌<◌, ◌≤◌}
use native.Mathlib.Omega.{arith}
use mathlib.Core.Path.{◌≡◌, refl}
use mathlib.Core.Bool.{Bool, true, false, cond, ◌&&◌, and_assoc, and-eq-true_iff}
use lib.Dec.{eqb, leb, ltb}
use borrow.Author.Tests.{leb-true, ltb-true, lt-leb}
use denote.Enum.Bare.{sameb}
use Rattle.octets.specs.contracts.Width.{the_type}
use Rattle.octets.specs.Widths.{width_bytes}
use Rattle.octets.specs.declared.Width.{Width}
use Rattle.octets.specs.declared.Width.TheVariants.{One, Two, Four}
use Rattle.place.specs.Map.{window_start, window_end, placed}
use Rattle.place.specs.declared.Place.{Place}
use Rattle.place.specs.declared.Place.TheVariants.{Memory, Fuse, Misaligned, Outside}

pub bytes_le : (w : Width) → width_bytes w ≤ 4
bytes_le One = omega arith
bytes_le Two = omega arith
bytes_le Four = omega arith

-- ---- the window

abbrev window : ℕ → ℕ → Bool
window n a = eqb n 4 && (leb window_start a && ltb a window_end)

abbrev word : ℕ → ℕ
word a = (a - window_start) / 4

pub in_window : (b : Bool) (s a e : ℕ) → (b && (leb s a && ltb a e)) ≡ true → (s ≤ a) × (a < e)
in_window b s a e h =
    let t = (and-eq-true_iff (leb s a) (ltb a e)).0 ((and-eq-true_iff b (leb s a && ltb a e)).0 h).1 in
    (leb-true s a t.0, ltb-true a e t.1)

-- an access is a word's if it is of four bytes
pub is_word : (w : Width) → sameb the_type w Four ≡ eqb (width_bytes w) 4
is_word One = refl
is_word Two = refl
is_word Four = refl

-- an aligned access that memory does not hold, as `place_of` tests it
pub beyond_memory : (n a size m : ℕ) (y w : Bool) → eqb (a % n) 0 ≡ true → m ≡ n → size < a + m → y ≡ eqb n 4
    → (y && leb window_start a && ltb a window_end) ≡ w → cond w (Fuse (word a)) Outside ≡ placed n a size
unfolding placed
beyond_memory n a size m y w aligned counted l words e =
    rw (aligned, lt-leb (a + n) size (omega arith), ← words, ← (and_assoc y (leb window_start a) (ltb a window_end)), e)

-- ---- back from the place

abbrev map : Bool → Bool → Bool → ℕ → ℕ → Place
map aligned inside windowed a k = cond aligned (cond inside (Memory a) (cond windowed (Fuse k) Outside)) Misaligned

map_memory : (x y z : Bool) (a k i : ℕ) → map x y z a k ≡ Memory i → (y ≡ true) × (i ≡ a)
map_memory true true z a k i e = (refl, cc)
map_memory true false true a k i e = (cc, cc)
map_memory true false false a k i e = (cc, cc)
map_memory false y z a k i e = (cc, cc)

map_fuse : (x y z : Bool) (a k i : ℕ) → map x y z a k ≡ Fuse i → (z ≡ true) × (i ≡ k)
map_fuse true true z a k i e = (cc, cc)
map_fuse true false true a k i e = (refl, cc)
map_fuse true false false a k i e = (cc, cc)
map_fuse false y z a k i e = (cc, cc)

pub placed_memory : (n a size i : ℕ) → placed n a size ≡ Memory i → (i ≡ a) × (i + n ≤ size)
unfolding placed
placed_memory n a size i e =
    let p = map_memory (eqb (a % n) 0) (leb (a + n) size) (window n a) a (word a) i e in
    let l : a + n ≤ size = leb-true _ _ p.0 in (p.1, omega arith)

pub placed_fuse : (n a size k : ℕ) → placed n a size ≡ Fuse k → k < 64
unfolding placed
placed_fuse n a size k e =
    let p = map_fuse (eqb (a % n) 0) (leb (a + n) size) (window n a) a (word a) k e in
    let w = in_window (eqb n 4) window_start a window_end p.0 in omega arith
