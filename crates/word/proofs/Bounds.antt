-- Parts of a list, and a list with another element, keep its bound.
use Prim.Native.Nat.{ℕ, zero, suc, ◌<◌}
use mathlib.Core.List.{List, [], ◌∷◌, ◌++◌}
use lib.ListN.{take, drop, get_or, set}
use Rattle.word.specs.Bounds.{AllBelow}

module _ (b : ℕ) where
  pub below_append : (s t : List ℕ) → AllBelow b s → AllBelow b t → AllBelow b (s ++ t)
  below_append [] t h k = k
  below_append (v ∷ s) t h k = (h.0, below_append s t h.1 k)

  pub below_take : (n : ℕ) (s : List ℕ) → AllBelow b s → AllBelow b (take n s)
  below_take zero s h = tt
  below_take (suc n) [] h = tt
  below_take (suc n) (v ∷ s) h = (h.0, below_take n s h.1)

  pub below_drop : (n : ℕ) (s : List ℕ) → AllBelow b s → AllBelow b (drop n s)
  below_drop zero s h = h
  below_drop (suc n) [] h = tt
  below_drop (suc n) (v ∷ s) h = below_drop n s h.1

  pub below_set : (s : List ℕ) (n v : ℕ) → AllBelow b s → v < b → AllBelow b (set s n v)
  below_set [] n v h k = tt
  below_set (w ∷ s) zero v h k = (k, h.1)
  below_set (w ∷ s) (suc n) v h k = (h.0, below_set s n v h.1 k)

  pub below_get : (s : List ℕ) (n : ℕ) → 0 < b → AllBelow b s → get_or s n 0 < b
  below_get [] n p h = p
  below_get (v ∷ s) zero p h = h.0
  below_get (v ∷ s) (suc n) p h = below_get s n p h.1
