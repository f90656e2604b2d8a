-- Tables that are looked up by a code.
use Rattle.std.specs.Prelude.{ℕ, cond, List, [], ◌∷◌, eqb}

-- what the first row with the code k holds, put through f; where there is no such row, d
abbrev pub find : {A B : Type 0} → B → List (ℕ × A) → ℕ → (A → B) → B
find d [] k f = d
find d (r ∷ t) k f = cond (eqb k r.0) (f r.1) (find d t k f)
