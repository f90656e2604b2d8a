-- The shortener's definition by one trial: the halfword that is tried stands for the instruction, and is then the smallest that does, or none does.
use mathlib.Core.Path.{◌≡◌, refl, sym, ap, ◌∙◌, subst}
use mathlib.Core.Bool.{Bool, true, false, cond}
use Prim.Native.Nat.{ℕ, ◌^◌, ◌≤◌, ◌<◌}
use native.Mathlib.Omega.{arith}
use lib.Dec.{T}
use Rattle.word.proofs.Bools.{holds, is_true, is_false}
use Rattle.isa.specs.declared.Inst.{Inst}
use Rattle.isa.specs.Operations.{parts_of}
use Rattle.isa.specs.Encoding.{in_range}
use Rattle.isa.specs.Rvc.{expanded}
use Rattle.isa.specs.Shortening.{means, stands, smallest, shortened}
use Rattle.shortest.specs.Trial.{tried}
use Rattle.shortest.proofs.Best.{best_of}
use Rattle.shortest.proofs.Smallest.{no_smallest, the_smallest}
use Rattle.roundtrip.proofs.Same.{same}
use Rattle.shortest.proofs.Half.{half}
use Rattle.isa.specs.declared.Unshortened.TheVariants as U
use Rattle.isa.specs.declared.Unshortened.{Unshortened}
use Rattle.std.specs.Prelude.{Err, None, Ok, Option, Result, Some}

-- a halfword that stands for i means i
pub meant : (i : Inst) (h : ℕ) → T (stands i h) → expanded h ≡ Some i
meant i h t = go (expanded h) t
  where
    go : (d : Option Inst) → T (means d i) → d ≡ Some i
    go (Some j) t = ap Some (same j i t)
    go None t = absurd t

module _ (i : Inst) where
  abbrev trial : ℕ
  trial = tried (parts_of i)

  trial_lt : trial < 2 ^ 16
  trial_lt = half _ _ _ _ _

  -- no halfword that stands for i is smaller than the one tried
  not_below : (k : ℕ) → k < trial → stands i k ≡ false
  not_below k l = is_false (stands i k) (λ t. below (best_of k i (omega (arith, trial_lt)) (meant i k t)).no_larger)
    where
      below : trial ≤ k → ⊥
      below m = omega arith

  -- .. and where that one does not, none does
  none_else : stands i trial ≡ false → (k : ℕ) → k < 2 ^ 16 → stands i k ≡ false
  none_else e k l = is_false (stands i k) (λ t. subst T e (best_of k i l (meant i k t)).stands_too)

  pub by_trial : smallest (stands i) (2 ^ 16) ≡ cond (stands i trial) (Ok trial) (Err U.NoShortForm)
  by_trial = go (stands i trial) refl
    where
      go : (b : Bool) → stands i trial ≡ b → smallest (stands i) (2 ^ 16) ≡ cond b (Ok trial) (Err U.NoShortForm)
      go true e = the_smallest (stands i) (2 ^ 16) trial trial_lt e not_below
      go false e = no_smallest (stands i) (2 ^ 16) (none_else e)

-- what a halfword stands for is in range
pub expanded_in_range : (h : ℕ) (i : Inst) → h < 2 ^ 16 → expanded h ≡ Some i → in_range i ≡ true
expanded_in_range h i l e = is_true (in_range i) (best_of h i l e).encodable

-- an answer of the shortener: it stands for the instruction, and no other that does is smaller
pub record Shortest (i : Inst) (h : ℕ) : Type 0 where
  pub halfword : h < 2 ^ 16
  pub stands_for : expanded h ≡ Some i
  pub smallest_one : (k : ℕ) → k < 2 ^ 16 → expanded k ≡ Some i → h ≤ k

-- the definition, as the code goes
pub by_one : (i : Inst) → shortened i ≡ cond (in_range i) (cond (stands i (tried (parts_of i))) (Ok (tried (parts_of i))) (Err U.NoShortForm)) (Err U.OutOfRange)
by_one i = ap (λ (s : Result ℕ Unshortened). cond (in_range i) s (Err U.OutOfRange)) (by_trial i)

-- where a halfword stands for i, there is an answer
pub shortened_one : (i : Inst) (h : ℕ) → h < 2 ^ 16 → expanded h ≡ Some i → shortened i ≡ Ok (tried (parts_of i))
shortened_one i h l e = by_one i ∙ rw (expanded_in_range h i l e, is_true (stands i (trial i)) (best_of h i l e).stands_too)

-- expanding the answer gives the instruction, and the answer is the smallest that does
pub shortened-is : (i : Inst) (h : ℕ) → shortened i ≡ Ok h → Shortest i h
shortened-is i h e = go (in_range i) (stands i (trial i)) refl (sym (by_one i) ∙ e)
  where
    is : T (stands i (trial i)) → trial i ≡ h → Shortest i h
    is t q =
        subst (Shortest i) q
        (record { halfword = trial_lt i; stands_for = meant i (trial i) t; smallest_one = λ k l m. (best_of k i l m).no_larger })

    go : (a b : Bool) → stands i (trial i) ≡ b → cond a (cond b (Ok (trial i)) (Err U.NoShortForm)) (Err U.OutOfRange) ≡ Ok h → Shortest i h
    go true true p q = is (holds _ p) (cc)
    go true false p q = let z : ◌≡◌ {A = ℕ} 0 1 = cc in absurd (omega arith)
    go false b p q = let z : ◌≡◌ {A = ℕ} 0 1 = cc in absurd (omega arith)

-- refused with no short form exactly if none stands for an instruction in range
pub no_short_form : (i : Inst) → shortened i ≡ Err U.NoShortForm → (k : ℕ) → k < 2 ^ 16 → expanded k ≡ Some i → ⊥
no_short_form i e k l m =
    let q : Ok (tried (parts_of i)) ≡ Err U.NoShortForm = sym (shortened_one i k l m) ∙ e in
    let z : ◌≡◌ {A = ℕ} 0 1 = cc in
    omega arith

pub none-stands : (i : Inst) → in_range i ≡ true → ((k : ℕ) → k < 2 ^ 16 → expanded k ≡ Some i → ⊥) → shortened i ≡ Err U.NoShortForm
none-stands i e f = rw e (no_smallest (stands i) (2 ^ 16) (λ k l. is_false (stands i k) (λ t. f k l (meant i k t))))
