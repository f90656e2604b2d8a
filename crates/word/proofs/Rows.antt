-- Looking a code up in a table: what holds of each row, where its code is the one looked up, holds of what is found.
use mathlib.Core.Path.{◌≡◌, refl, subst⁻¹}
use mathlib.Core.Bool.{Bool, true, false, cond, ◌&&◌}
use mathlib.Core.List.{List, [], ◌∷◌}
use Prim.Native.Nat.{ℕ}
use lib.Dec.{T, eqb, eqb→eq}
use Rattle.word.specs.Tables.{find}
use Rattle.word.proofs.Bools.{and_left, and_right}

-- a table's rows, one after the other
infixr 10 ◌and◌
abbrev pub ◌and◌ : {A B : Type 0} → A → B → A × B
a and b = (a, b)

-- what holds of each row, where its code is k
abbrev pub Each : {A B : Type 0} → (B → Type 0) → List (ℕ × A) → ℕ → (A → B) → Type 0
Each P [] k f = Unit {0}
Each P (r ∷ t) k f = (k ≡ r.0 → P (f r.1)) × Each P t k f

-- .. and of the answer where there is no row, holds of what is found
pub found : {A B : Type 0} (P : B → Type 0) (d : B) → P d → (t : List (ℕ × A)) (k : ℕ) (f : A → B) → Each P t k f → P (find d t k f)
found P d z [] k f e = z
found P d z (r ∷ t) k f e = go (found P d z t k f e.1) (eqb k r.0) refl
  where
    go : P (find d t k f) → (b : Bool) → eqb k r.0 ≡ b → P (cond (eqb k r.0) (f r.1) (find d t k f))
    go h true q = subst⁻¹ (λ (b : Bool). P (cond b (f r.1) (find d t k f))) q (e.0 (eqb→eq k r.0 (subst⁻¹ T q tt)))
    go h false q = subst⁻¹ (λ (b : Bool). P (cond b (f r.1) (find d t k f))) q h

-- a test that each row passes, its code with what it has: antt computes it
abbrev pub passes : {A : Type 0} → (ℕ → A → Bool) → List (ℕ × A) → Bool
passes p [] = true
passes p (r ∷ t) = p r.0 r.1 && passes p t

each : {A B : Type 0} (P : B → Type 0) (p : ℕ → A → Bool) (t : List (ℕ × A)) (k : ℕ) (f : A → B) → T (passes p t) → ((o : A) → T (p k o) → P (f o)) → Each P t k f
each P p [] k f ok g = tt
each P p (r ∷ t) k f ok g =
    (λ e. g r.1 (rw e (and_left (p r.0 r.1) (passes p t) ok)))
    and each P p t k f (and_right (p r.0 r.1) (passes p t) ok) g

-- .. so k passes it with what is found, from which P follows
pub found_passing : {A B : Type 0} (P : B → Type 0) (d : B) → P d → (p : ℕ → A → Bool) (t : List (ℕ × A)) (k : ℕ) (f : A → B)
    → T (passes p t) → ((o : A) → T (p k o) → P (f o)) → P (find d t k f)
found_passing P d z p t k f ok g = found P d z t k f (each P p t k f ok g)

-- a function of what is found
pub found_through : {A B : Type 0} (f : A → B) (d : A) (t : List (ℕ × A)) (k : ℕ) → f (find d t k (λ a. a)) ≡ find (f d) t k f
found_through f d [] k = refl
found_through f d (r ∷ t) k = go (found_through f d t k) (eqb k r.0)
  where
    go : f (find d t k (λ a. a)) ≡ find (f d) t k f → (b : Bool) → f (cond b r.1 (find d t k (λ a. a))) ≡ cond b (f r.1) (find (f d) t k f)
    go u true = refl
    go u false = u
