-- Laws of the fuse row: a burnt row is as long as before, a record's rules are told by its upper half, and the row breaks them exactly if one of its records does.
use Prim.Native.Nat.{ℕ, zero, suc, ◌+◌, ◌*◌, ◌<◌}
use native.Mathlib.Nat.{eq-or-lt_of_le}
use native.Mathlib.Omega.{arith}
use mathlib.Core.Path.{◌≡◌, refl, sym, ap, ◌∙◌}
use mathlib.Core.Bool.{Bool, true, false, cond, not, ◌&&◌, ◌||◌, and-false, and-eq-true_iff}
use mathlib.Core.List.{List}
use mathlib.Core.Logic.{◌↔◌, ⊎_elim}
use lib.ListN.{length}
use lib.Dec.{eqb, leb}
use borrow.Author.Tests.{ne_eqb, lt-leb}
use Rattle.word.specs.Bits.{flag}
use Rattle.octets.specs.Bytes.{load, store}
use Rattle.octets.proofs.Bytes.{load-add, length-store}
use Rattle.fuses.specs.Row.{value_at, mark_at, rest_at, keeps_rules, all_keep, lowest_bad, burnt}

pub length-burnt : (k v : ℕ) (row : List ℕ) → k < 64 → length row ≡ 512 → length (burnt k v row) ≡ 512
unfolding burnt
length-burnt k v row h l =
    let s : length (store 4 (8 * k) v row) ≡ 512 = length-store 4 (8 * k) v row (omega arith) ∙ l in
    length-store 1 (8 * k + 4) 1 (store 4 (8 * k) v row) (omega arith) ∙ s

-- u stands for the upper half
rules : (value mark rest u : ℕ) → u ≡ mark + rest * 256
    → ((eqb u 1 && not (eqb value 0)) || (eqb u 0 && eqb value 0)) ≡ (eqb rest 0 && ((eqb mark 1 && not (eqb value 0)) || (eqb mark 0 && eqb value 0)))
rules value mark zero u e = let q : u ≡ mark = omega arith in rw q
rules value mark (suc n) u e =
    rw (ne_eqb (suc n) 0 (λ z. omega arith), ne_eqb u 1 (λ z. omega arith), ne_eqb u 0 (λ z. omega arith))

pub upper_rules : (k : ℕ) (row : List ℕ) → k < 64 → length row ≡ 512
    → ((eqb (load 4 (8 * k + 4) row) 1 && not (eqb (value_at k row) 0)) || (eqb (load 4 (8 * k + 4) row) 0 && eqb (value_at k row) 0)) ≡ keeps_rules k row
upper_rules k row h l =
    let a : 8 * k + 4 + 1 ≡ 8 * k + 5 = omega arith in
    rules (value_at k row) (mark_at k row) (rest_at k row) (load 4 (8 * k + 4) row) (rw a at (load-add 1 3 (8 * k + 4) row (omega arith)))

-- the row breaks the rules exactly if one of its records does
pub one_breaks : (n k : ℕ) (row : List ℕ) → k < n → keeps_rules k row ≡ false → all_keep n row ≡ false
unfolding all_keep
one_breaks zero k row h e = absurd (let z : ⊥ = omega arith in z)
one_breaks (suc n) k row h e =
    ⊎_elim
    (λ (q : k ≡ n). rw (← q, e) (and-false (all_keep k row)))
    (λ (l : k < n). rw (one_breaks n k row l e))
    (eq-or-lt_of_le (omega arith))

some_breaks : (n : ℕ) (row : List ℕ) → all_keep n row ≡ false → (k : ℕ) × (k < n) × (keeps_rules k row ≡ false)
unfolding all_keep
some_breaks zero row e = let z : ◌≡◌ {A = ℕ} 0 1 = cc in absurd (omega arith)
some_breaks (suc n) row e = go (some_breaks n row) (all_keep n row) refl e
  where
    go : (all_keep n row ≡ false → (k : ℕ) × (k < n) × (keeps_rules k row ≡ false)) → (b : Bool) → all_keep n row ≡ b → (b && keeps_rules n row) ≡ false
        → (k : ℕ) × (k < suc n) × (keeps_rules k row ≡ false)
    go f true q e = (n, omega arith, e)
    go f false q e = let s = f q in (s.0, omega arith, s.2)

pub record_breaks : (row : List ℕ) → (all_keep 64 row ≡ false) ↔ ((k : ℕ) × (k < 64) × (keeps_rules k row ≡ false))
record_breaks row = (some_breaks 64 row, λ s. one_breaks 64 s.0 row s.1 s.2)

-- ---- the lowest word whose record breaks the rules

-- among the first n, there is none where all keep them
none-bad : (n : ℕ) (row : List ℕ) → all_keep n row ≡ true → lowest_bad n row ≡ n
unfolding all_keep lowest_bad
none-bad zero row e = refl
none-bad (suc n) row e = let t = (and-eq-true_iff (all_keep n row) (keeps_rules n row)).0 e in rw (t.0, t.1)

-- it is k where those below k keep them, and k does not
pub lowest-is : (n k : ℕ) (row : List ℕ) → k < n → all_keep k row ≡ true → keeps_rules k row ≡ false → lowest_bad n row ≡ k
unfolding lowest_bad
lowest-is zero k row h a e = absurd (let z : ⊥ = omega arith in z)
lowest-is (suc n) k row h a e =
    ⊎_elim
    (λ (q : k ≡ n). rw (← q, a, e))
    (λ (l : k < n). rw (one_breaks n k row l e) (lowest-is n k row l a e))
    (eq-or-lt_of_le (omega arith))

-- it is one of them, breaks the rules, and none below it does
pub record Lowest (n k : ℕ) (row : List ℕ) : Type 0 where
  pub within : k < n
  pub breaks : keeps_rules k row ≡ false
  pub below : all_keep k row ≡ true

pub lowest_breaks : (n : ℕ) (row : List ℕ) → all_keep n row ≡ false → Lowest n (lowest_bad n row) row
unfolding all_keep lowest_bad
lowest_breaks zero row e = let z : ◌≡◌ {A = ℕ} 0 1 = cc in absurd (omega arith)
lowest_breaks (suc n) row e = go (lowest_breaks n row) (all_keep n row) refl (keeps_rules n row) refl e
  where
    go : (all_keep n row ≡ false → Lowest n (lowest_bad n row) row) → (a : Bool) → all_keep n row ≡ a → (b : Bool) → keeps_rules n row ≡ b → (a && b) ≡ false
        → Lowest (suc n) (cond a (cond b (suc n) n) (lowest_bad n row)) row
    go f true p true q e = let z : ◌≡◌ {A = ℕ} 0 1 = cc in absurd (omega arith)
    go f true p false q e = record { within = omega arith; breaks = q; below = p }
    go f false p b q e = let s = f p in record { within = omega (arith, s.within); breaks = s.breaks; below = s.below }

pub all_below : (n j : ℕ) (row : List ℕ) → all_keep n row ≡ true → j < n → keeps_rules j row ≡ true
all_below n j row a h = go (keeps_rules j row) refl
  where
    go : (b : Bool) → keeps_rules j row ≡ b → b ≡ true
    go true e = refl
    go false e = let z : ◌≡◌ {A = ℕ} 0 1 = ap flag (sym (one_breaks n j row h e) ∙ a) in absurd (omega arith)

pub all_keep_lem : (n : ℕ) (row : List ℕ) → ((k : ℕ) → k < n → keeps_rules k row ≡ true) → all_keep n row ≡ true
unfolding all_keep
all_keep_lem zero row h = refl
all_keep_lem (suc n) row h = rw (all_keep_lem n row (λ k l. h k (omega arith))) (h n (omega arith))

-- a lowest word below 64 tells that one breaks the rules, and no lowest word that none does
pub lowest_tells : (row : List ℕ) → all_keep 64 row ≡ leb 64 (lowest_bad 64 row)
lowest_tells row = go (all_keep 64 row) refl
  where
    go : (b : Bool) → all_keep 64 row ≡ b → b ≡ leb 64 (lowest_bad 64 row)
    go true e = rw (none-bad 64 row e)
    go false e = sym (lt-leb 64 (lowest_bad 64 row) (lowest_breaks 64 row e).within)
