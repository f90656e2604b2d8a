-- An access lies in one of four ways, by the map's three tests; each statement goes over the four.
use mathlib.Core.Path.{◌≡◌, refl, sym, ap, ◌∙◌}
use mathlib.Core.Bool.{Bool, true, false, cond, ◌&&◌, and-eq-true_iff}
use mathlib.Core.Logic.{◌↔◌}
use Prim.Native.Nat.{ℕ, ◌+◌, ◌-◌, ◌/◌, ◌%◌, ◌≤◌, ◌<◌}
use native.Mathlib.Omega.{arith}
use lib.Dec.{T, eqb, leb, ltb}
use borrow.Author.Tests.{eqb-true, eqb-false, eq-eqb, leb-true, leb-false, le-leb, lt-ltb}
use Rattle.word.proofs.Bools.{holds}
use Rattle.octets.specs.Widths.{width_bytes}
use Rattle.place.specs.Map.{window_start, window_end, placed}
use Rattle.place.specs.declared.Place.{Place}
use Rattle.place.specs.declared.Place.TheVariants.{Memory, Fuse, Misaligned, Outside}
use Rattle.place.proofs.Placed.{in_window}
use Rattle.promises.specs.Places.{FuseWord, MemoryExactly, FuseExactly, MisalignedExactly, OutsideExactly}

-- a word access in the window
record Windowed (n a : ℕ) : Type 0 where
  word : n ≡ 4
  from : window_start ≤ a
  below : a < window_end

data Lies (n a size : ℕ) : Place → Type 0 where
  off : (a % n ≡ 0 → ⊥) → Lies n a size Misaligned
  within : a % n ≡ 0 → a + n ≤ size → Lies n a size (Memory a)
  fused : a % n ≡ 0 → size < a + n → Windowed n a → Lies n a size (Fuse ((a - window_start) / 4))
  out : a % n ≡ 0 → size < a + n → (Windowed n a → ⊥) → Lies n a size Outside

windowed : (n a : ℕ) → (eqb n 4 && (leb window_start a && ltb a window_end)) ≡ true → Windowed n a
windowed n a h = let t = in_window (eqb n 4) window_start a window_end h in record { word = eqb-true n 4 ((and-eq-true_iff (eqb n 4) _).0 h).0; from = t.0; below = t.1 }

not_windowed : (n a : ℕ) → (eqb n 4 && (leb window_start a && ltb a window_end)) ≡ false → Windowed n a → ⊥
not_windowed n a h t = holds false (sym h ∙ rw (eq-eqb n 4 t.word, le-leb window_start a t.from, lt-ltb a window_end t.below))

lies : (n a size : ℕ) → Lies n a size (placed n a size)
unfolding placed
lies n a size = go (eqb (a % n) 0) (leb (a + n) size) (eqb n 4 && (leb window_start a && ltb a window_end)) refl refl refl
  where
    go : (x y z : Bool) → eqb (a % n) 0 ≡ x → leb (a + n) size ≡ y → (eqb n 4 && (leb window_start a && ltb a window_end)) ≡ z
        → Lies n a size (cond x (cond y (Memory a) (cond z (Fuse ((a - window_start) / 4)) Outside)) Misaligned)
    go false y z e f g = off (eqb-false _ _ e)
    go true true z e f g = within (eqb-true _ _ e) (leb-true _ _ f)
    go true false true e f g = fused (eqb-true _ _ e) (leb-false _ _ f) (windowed n a g)
    go true false false e f g = out (eqb-true _ _ e) (leb-false _ _ f) (not_windowed n a g)

-- two places that are equal are of one kind
abbrev kind : Place → ℕ
kind (Memory i) = 0
kind (Fuse k) = 1
kind Misaligned = 2
kind Outside = 3

same : {p q : Place} → p ≡ q → T (eqb (kind p) (kind q))
same {p} {q} e = holds (eqb (kind p) (kind q)) (eq-eqb _ _ (ap kind e))

-- ---- the promises

pub memory_exactly : MemoryExactly
memory_exactly w a size i = go (lies (width_bytes w) a size)
  where
    go : {p : Place} → Lies (width_bytes w) a size p → (p ≡ Memory i) ↔ ((a % width_bytes w ≡ 0) × (a + width_bytes w ≤ size) × (i ≡ a))
    go (off h) = (λ e. absurd (same e), λ c. absurd (h c.0))
    go (within x y) = (λ e. (x, y, cc), λ c. ap Memory (sym c.2))
    go (fused x y t) = (λ e. absurd (same e), λ c. absurd (omega (arith, c.1)))
    go (out x y t) = (λ e. absurd (same e), λ c. absurd (omega (arith, c.1)))

pub fuse_exactly : FuseExactly
fuse_exactly w a size k s = go (lies (width_bytes w) a size)
  where
    aligned : FuseWord w a k → a % width_bytes w ≡ 0
    aligned c = rw c.0 (omega (arith, c.2))

    go : {p : Place} → Lies (width_bytes w) a size p → (p ≡ Fuse k) ↔ FuseWord w a k
    go (off h) = (λ e. absurd (same e), λ c. absurd (h (aligned c)))
    go (within x y) = (λ e. absurd (same e), λ c. absurd (omega (arith, c.2, s)))
    go (fused x y t) =
        let at-word : a % 4 ≡ 0 = rw t.word at x in
        (λ e. let k-is : (a - window_start) / 4 ≡ k = cc in (t.word, omega (arith, t.below), omega (arith, t.from)), λ c. ap Fuse (omega (arith, c.2)))
    go (out x y t) = (λ e. absurd (same e), λ c. absurd (t (record { word = c.0; from = omega (arith, c.2); below = omega (arith, c.1, c.2) })))

pub misaligned_exactly : MisalignedExactly
misaligned_exactly w a size = go (lies (width_bytes w) a size)
  where
    go : {p : Place} → Lies (width_bytes w) a size p → (p ≡ Misaligned) ↔ (a % width_bytes w ≡ 0 → ⊥)
    go (off h) = (λ e. h, λ c. refl)
    go (within x y) = (λ e. absurd (same e), λ c. absurd (c x))
    go (fused x y t) = (λ e. absurd (same e), λ c. absurd (c x))
    go (out x y t) = (λ e. absurd (same e), λ c. absurd (c x))

pub outside_exactly : OutsideExactly
outside_exactly w a size = go (lies (width_bytes w) a size)
  where
    Otherwise : Type 0
    Otherwise = (a % width_bytes w ≡ 0) × (a + width_bytes w ≤ size → ⊥) × ((k : ℕ) → FuseWord w a k → ⊥)

    go : {p : Place} → Lies (width_bytes w) a size p → (p ≡ Outside) ↔ Otherwise
    go (off h) = (λ e. absurd (same e), λ c. absurd (h c.0))
    go (within x y) = (λ e. absurd (same e), λ c. absurd (c.1 y))
    go (fused x y t) =
        let at-word : a % 4 ≡ 0 = rw t.word at x in
        (λ e. absurd (same e), λ c. absurd (c.2 ((a - window_start) / 4) (t.word, omega (arith, t.below), omega (arith, t.from))))
    go (out x y t) = (λ e. (x, λ l. omega (arith, y), λ k f. t (record { word = f.0; from = omega (arith, f.2); below = omega (arith, f.1, f.2) })), λ c. refl)
