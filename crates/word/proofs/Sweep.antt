-- A test that antt computes at each of many numbers, and what it then says of each.
use mathlib.Core.Path.{◌≡◌, subst}
use mathlib.Core.Bool.{Bool, true, cond, ◌&&◌}
use mathlib.Core.List.{List}
use mathlib.Core.Logic.{inl, inr}
use Prim.Native.Nat.{ℕ, zero, suc, ◌+◌, ◌*◌, ◌/◌, ◌%◌, ◌^◌, ◌≤◌, ◌<◌}
use native.Mathlib.Nat.{pow-suc}
use native.Mathlib.Omega.{arith}
use borrow.Author.Tests.{lt-ltb}
use lib.Arith.{digits_div, digits_mod}
use lib.Dec.{T, eqb, eqb→eq, ltb}
use lib.ListN.{get_or}
use Rattle.word.proofs.Bools.{and_left, and_right, below}

-- the test passes at a and at the 2 ^ d - 1 numbers after it. The recursion halves, so it is d deep
abbrev pub every : (ℕ → Bool) → ℕ → ℕ → Bool
every f zero a = f a
every f (suc d) a = every f d a && every f d (a + 2 ^ d)

only : (h a : ℕ) → a ≤ h → h < a + 1 → a ≡ h
only h a l u = omega arith

twice : (h a d : ℕ) → h < a + 2 ^ suc d → h < a + 2 ^ d + 2 ^ d
twice h a d u = omega (arith, pow-suc 2 d)

pub at : (f : ℕ → Bool) (d a : ℕ) → T (every f d a) → (h : ℕ) → a ≤ h → h < a + 2 ^ d → T (f h)
at f zero a t h l u = subst (λ (n : ℕ). T (f n)) (only h a l u) t
at f (suc d) a t h l u =
    elim (below h (a + 2 ^ d)) [
      | inl k ↦ at f d a (and_left (every f d a) (every f d (a + 2 ^ d)) t) h l k
      | inr k ↦ at f d (a + 2 ^ d) (and_right (every f d a) (every f d (a + 2 ^ d)) t) h k (twice h a d u)
    ]

-- ---- a table in rows of `wide` entries, `size` in all: entry n is as the rule says of row n / wide and column n % wide

abbrev pub ruled : ℕ → ℕ → (ℕ → ℕ → ℕ) → List ℕ → ℕ → Bool
ruled wide size rule table n = cond (ltb n size) (eqb (get_or table n 0) (rule (n / wide) (n % wide))) true

pub entry : (wide size d : ℕ) (rule : ℕ → ℕ → ℕ) (table : List ℕ) → T (every (ruled wide size rule table) d 0) → (row column : ℕ)
    → column < wide → row * wide + column < size → size ≤ 2 ^ d → get_or table (row * wide + column) 0 ≡ rule row column
entry wide size d rule table t row column h l u =
    let n : ℕ = row * wide + column in
    let e = rw (lt-ltb n size l) at (at (ruled wide size rule table) d 0 t n (omega arith) (omega arith)) in
    rw (digits_div row h, digits_mod row h) at (eqb→eq (get_or table n 0) (rule (n / wide) (n % wide)) e)
