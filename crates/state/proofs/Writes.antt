-- A register written by a walk over all of them: the walk passes x1 to x31, and register n, and no other, gets v.
use Prim.Native.Nat.{ℕ, ◌+◌, ◌-◌, ◌≤◌}
use native.Mathlib.Omega.{arith}
use mathlib.Core.Path.{◌≡◌, refl, sym}
use mathlib.Core.Bool.{Bool, true, false, cond}
use mathlib.Core.List.{List}
use lib.Dec.{eqb, leb}
use lib.ListN.{length, get_or, set}
use lib.Seq.{set-get_or, set_out}
use borrow.Author.Tests.{leb-true, leb-false, eqb-true, eqb-false, ne_eqb, le-leb, lt-leb}

abbrev pub whole : ℕ → ℕ → List ℕ → List ℕ
whole n v x = cond (eqb n 0) x (set x (n - 1) v)

-- the registers after the first k of them were passed
abbrev pub passed : ℕ → ℕ → List ℕ → ℕ → List ℕ
passed n v x k = cond (leb n k) (whole n v x) x

module _ (n v : ℕ) (x : List ℕ) where
  pub start : passed n v x 0 ≡ x
  start = go (eqb n 0) refl
    where
      go : (t : Bool) → eqb n 0 ≡ t → passed n v x 0 ≡ x
      go true e = rw (e, le-leb n 0 (omega (arith, eqb-true n 0 e)))
      go false e = rw (lt-leb n 0 (omega (arith, eqb-false n 0 e)))

  pub turn : (k : ℕ) → set (passed n v x k) k (cond (eqb (k + 1) n) v (get_or (passed n v x k) k 0)) ≡ passed n v x (k + 1)
  turn k = go (leb n k) refl (eqb (k + 1) n) refl
    where
      go : (s : Bool) → leb n k ≡ s → (t : Bool) → eqb (k + 1) n ≡ t
          → set (passed n v x k) k (cond (eqb (k + 1) n) v (get_or (passed n v x k) k 0)) ≡ passed n v x (k + 1)
      go s e true f =
          let g : k + 1 ≡ n = eqb-true (k + 1) n f in
          let z : n - 1 ≡ k = omega arith in
          rw (f, lt-leb n k (omega arith), le-leb n (k + 1) (omega arith), ne_eqb n 0 (λ w. omega arith), z)
      go true e false f =
          let h : n ≤ k = leb-true n k e in
          rw (e, f, le-leb n (k + 1) (omega arith)) (set-get_or (whole n v x) k 0)
      go false e false f =
          rw (e, f, lt-leb n (k + 1) (omega (arith, leb-false n k e, eqb-false (k + 1) n f))) (set-get_or x k 0)

  pub end : (k : ℕ) → length x ≤ k → passed n v x k ≡ whole n v x
  end k h = go (leb n k) refl
    where
      go : (s : Bool) → leb n k ≡ s → passed n v x k ≡ whole n v x
      go true e = rw e
      go false e =
          rw (e, ne_eqb n 0 (λ w. omega (arith, leb-false n k e))) (sym (set_out x (n - 1) v (omega (arith, leb-false n k e))))
