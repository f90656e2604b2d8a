-- A chain of tests is refused as the chain of its refusals says: a test that fails is the refusal that holds.
use mathlib.Core.Path.{◌≡◌, refl}
use mathlib.Core.Bool.{Bool, true, false}
use mathlib.Core.Logic.{◌↔◌, inl, inr, ⊎_elim}
use Prim.Native.Nat.{ℕ}
use native.Mathlib.Omega.{arith}
use Rattle.answers.specs.Answer.{Answer, given, refused_with}
use Rattle.answers.specs.Checks.{unless, Check, passed}
use Rattle.answers.specs.Order.{refusal, no_refusal}
use Rattle.answers.specs.Refusals.{number_of}
use Rattle.answers.specs.declared.Refusal.{Refusal}
use Rattle.std.specs.Prelude.{Err, Ok}

-- ---- answers

-- two answers that are told apart
pub apart : {A : Type 0} {a : A} {n : ℕ} → given a ≡ refused_with n → ⊥
apart e = let z : ◌≡◌ {A = ℕ} 0 1 = cc in omega arith

pub same_number : {A : Type 0} {m n : ℕ} → ◌≡◌ {A = Answer A} (refused_with m) (refused_with n) → m ≡ n
same_number e = cc

pub same-value : {A : Type 0} {a b : A} → given a ≡ given b → a ≡ b
same-value e = cc

-- ---- chains of tests

abbrev pub RefusedBy : Check → ℕ → Type 0
RefusedBy (Ok u) n = ⊥
RefusedBy (Err r) n = n ≡ number_of r

abbrev pub Says : Check → (ℕ → Type 0) → Type 0
Says c rows = (n : ℕ) → RefusedBy c n ↔ rows n

pub iff_same : {A : Type 0} → A ↔ A
iff_same = (λ e. e, λ e. e)

pub no_rows : Says passed no_refusal
no_rows n = iff_same

-- a test before the others is a row before theirs
pub then_row : (b : Bool) (r : Refusal) (rest : Check) {Holds : Type 0} {later : ℕ → Type 0} → (b ≡ false) ↔ Holds → Says rest later
    → Says (unless b r rest) (refusal (number_of r) Holds later)
then_row true r rest p q n = (
  λ e. inr (λ h. let z = p.1 h in let y : ◌≡◌ {A = ℕ} 0 1 = cc in omega arith, (q n).0 e),
  λ s. ⊎_elim (λ h. let z = p.1 h.0 in let y : ◌≡◌ {A = ℕ} 0 1 = cc in absurd (omega arith)) (λ h. (q n).1 h.1) s,
)
then_row false r rest p q n = (λ e. inl (p.0 refl, e), λ s. ⊎_elim (λ h. h.1) (λ h. absurd (h.0 (p.0 refl))) s)

-- no refusal holds, so every test passes
pub all_pass : (c : Check) {rows : ℕ → Type 0} → Says c rows → ((n : ℕ) → rows n → ⊥) → c ≡ passed
all_pass (Ok u) q f = refl
all_pass (Err r) q f = absurd (f (number_of r) ((q (number_of r)).0 refl))
