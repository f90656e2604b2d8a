-- Runs of digits, and numbers at the front of a text.
use mathlib.Core.Path.{◌≡◌, refl, ap}
use mathlib.Core.List.{List, [], ◌∷◌, ◌++◌}
use mathlib.Core.Bool.{Bool, true, false, cond, ◌&&◌}
use Prim.Native.Nat.{ℕ, suc, ◌+◌, ◌≤◌, ◌<◌}
use native.Mathlib.Omega.{arith}
use lib.Dec.{T, eqb, ltb, ltb→lt, lt→ltb}
use lib.ListN.{length, take, drop}
use lib.Seq.{length-take-le}
use Rattle.word.proofs.Bools.{and_left, and_right, and_both, is_true, holds}
use Rattle.assembly.specs.Lines.{is_digit, digits_only, minus, is_number}
use Rattle.assembly.specs.Scanner.{run, numeral}

-- ---- digits

pub digits-front : (a b : List ℕ) → T (digits_only (a ++ b)) → T (digits_only a)
digits-front [] b h = tt
digits-front (x ∷ a) b h = and_both (is_digit x) (digits_only a) (and_left (is_digit x) _ h) (digits-front a b (and_right (is_digit x) _ h))

pub run-front : (a t : List ℕ) → T (digits_only a) → length a ≤ run (a ++ t)
unfolding run
run-front [] t h = omega arith
run-front (x ∷ a) t h = rw (is_true (is_digit x) (and_left (is_digit x) _ h)) (omega (arith, run-front a t (and_right (is_digit x) _ h)))

pub run_exact : (a t : List ℕ) → T (digits_only a) → run t ≡ 0 → run (a ++ t) ≡ length a
unfolding run
run_exact [] t h e = e
run_exact (x ∷ a) t h e = rw (is_true (is_digit x) (and_left (is_digit x) _ h)) (ap suc (run_exact a t (and_right (is_digit x) _ h) e))

pub run-digits : (l : List ℕ) → T (digits_only (take (run l) l))
unfolding run
run-digits [] = tt
run-digits (x ∷ l) = go (run-digits l) (is_digit x) refl
  where
    go : T (digits_only (take (run l) l)) → (t : Bool) → is_digit x ≡ t → T (digits_only (take (cond t (suc (run l)) 0) (x ∷ l)))
    go h true e = and_both (is_digit x) _ (holds _ e) h
    go h false e = tt

pub run-within : (l : List ℕ) → run l ≤ length l
unfolding run
run-within [] = omega arith
run-within (x ∷ l) = go (run-within l) (is_digit x)
  where
    go : run l ≤ length l → (t : Bool) → cond t (suc (run l)) 0 ≤ suc (length l)
    go h true = omega arith
    go h false = omega arith

-- ---- numbers

one_more : (n : ℕ) → 1 + n ≡ suc n
one_more n = omega arith

none_more : (n : ℕ) → 0 + n ≡ n
none_more n = omega arith

-- an empty text is no number
pub no_number : (f : ℕ) → T (is_number f []) → ⊥
no_number f h = omega (arith, ltb→lt (minus f []) 0 (and_right (digits_only (drop (minus f []) [])) _ h))

-- the beginning of a number is read
pub number-front : (f : ℕ) (a b t : List ℕ) → T (is_number f (a ++ b)) → length a ≤ numeral f (a ++ t)
number-front f [] b t h = omega arith
number-front f (x ∷ a) b t h = go (eqb f 4 && eqb x 45) h
  where
    go : (s : Bool) → T (digits_only (drop (cond s 1 0) (x ∷ (a ++ b))) && ltb (cond s 1 0) (suc (length (a ++ b))))
        → suc (length a) ≤ cond s 1 0 + run (drop (cond s 1 0) (x ∷ (a ++ t)))
    go true h = omega (arith, run-front a t (digits-front a b (and_left (digits_only (a ++ b)) _ h)))
    go false h = omega (arith, run-front (x ∷ a) t (digits-front (x ∷ a) b (and_left (digits_only (x ∷ (a ++ b))) _ h)))

-- a number is read to its end, where no digit follows
pub number_exact : (f : ℕ) (a t : List ℕ) → T (is_number f a) → run t ≡ 0 → (numeral f (a ++ t) ≡ length a) × (minus f (a ++ t) < length a)
number_exact f [] t h e = absurd (no_number f h)
number_exact f (x ∷ a) t h e = go (eqb f 4 && eqb x 45) h
  where
    go : (s : Bool) → T (digits_only (drop (cond s 1 0) (x ∷ a)) && ltb (cond s 1 0) (suc (length a)))
        → (cond s 1 0 + run (drop (cond s 1 0) (x ∷ (a ++ t))) ≡ suc (length a)) × (cond s 1 0 < suc (length a))
    go true h = (
      rw (run_exact a t (and_left (digits_only a) _ h) e) (one_more (length a)),
      ltb→lt 1 (suc (length a)) (and_right (digits_only a) _ h),
    )
    go false h = (
      rw (run_exact (x ∷ a) t (and_left (digits_only (x ∷ a)) _ h) e) (none_more (suc (length a))),
      ltb→lt 0 (suc (length a)) (and_right (digits_only (x ∷ a)) _ h),
    )

-- what was read is a number
pub read_number : (f : ℕ) (l : List ℕ) → minus f l < numeral f l → (T (is_number f (take (numeral f l) l))) × (numeral f l ≤ length l)
unfolding run
read_number f [] h = absurd (go (eqb f 4 && eqb 0 45) h)
  where
    go : (s : Bool) → cond s 1 0 < cond s 1 0 + run (drop (cond s 1 0) []) → ⊥
    go true h = omega arith
    go false h = omega arith
read_number f (x ∷ l) h = go (eqb f 4 && eqb x 45) refl h
  where
    bare : (eqb f 4 && eqb x 45) ≡ false → (d : Bool) → is_digit x ≡ d → 0 < 0 + cond d (suc (run l)) 0 → T (is_number f (take (cond d (suc (run l)) 0) (x ∷ l)))
    bare e true q h = rw e (and_both (is_digit x && digits_only (take (run l) l)) _ (and_both (is_digit x) _ (holds _ q) (run-digits l)) (lt→ltb 0 (suc (length (take (run l) l))) (omega arith)))
    bare e false q h = absurd (omega arith)

    go : (s : Bool) → (eqb f 4 && eqb x 45) ≡ s → let n = cond s 1 0 + run (drop (cond s 1 0) (x ∷ l)) in cond s 1 0 < n
        → (T (is_number f (take n (x ∷ l)))) × (n ≤ suc (length l))
    go true e h =
        rw (one_more (run l), e)
        (and_both (digits_only (take (run l) l)) _ (run-digits l) (lt→ltb 1 (suc (length (take (run l) l))) (omega (arith, length-take-le (run l) l (run-within l)))), omega (arith, run-within l))
    go false e h = rw (none_more (run (x ∷ l))) (bare e (is_digit x) refl h, omega (arith, run-within (x ∷ l)))
