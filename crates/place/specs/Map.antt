-- The memory map: main memory from address 0, size bytes of it, and the fuse window of 64 words. Everything else is outside.
use Rattle.std.specs.Prelude.{ℕ, ◌+◌, ◌-◌, ◌/◌, ◌%◌, cond, ◌&&◌, eqb, ltb, leb}
use Rattle.place.specs.declared.Place.{Place}
use Rattle.place.specs.declared.Place.TheVariants.{Memory, Fuse, Misaligned, Outside}

abbrev pub window_start : ℕ
window_start = 0x80000000

abbrev pub window_end : ℕ
window_end = 0x80000100

-- an access of n bytes at a: misaligned, then outside. In the window only words are within; byte and half accesses there count as outside.
-- a + n is not taken modulo 2 ^ 32: an access that would pass the last address is outside.
unfoldable pub placed : ℕ → ℕ → ℕ → Place
placed n a size =
    cond (eqb (a % n) 0)
    (cond (leb (a + n) size) (Memory a)
    (cond (eqb n 4 && (leb window_start a && ltb a window_end)) (Fuse ((a - window_start) / 4)) Outside))
    Misaligned
