-- What follows for every text, line after line.
use mathlib.Core.Path.{◌≡◌, refl, sym, subst}
use mathlib.Core.List.{List, [], ◌∷◌}
use Prim.Native.Nat.{ℕ, zero, suc, ◌≤◌, ◌<◌}
use native.Mathlib.Omega.{arith}
use lib.ListN.{length, length-append}
use Rattle.answers.specs.declared.Refusal.{Refusal}
use Rattle.assembly.specs.Assembly.{Meaning, gives, faulty, meaning, Assembly, output, fault, before, assembled}
use Rattle.assembly.proofs.Steps.{gives-long, nothing, line_then, line-faulty}

-- what holds of no lines, of a first line at fault, and of a line before others, holds of every text
module _ (P : List ℕ → Assembly → Type 0) (none : P [] (output []))
    (here : (text : List ℕ) (r : Refusal) (p : ℕ) → 0 < length text → meaning text ≡ faulty r p → P text (fault r 0 p))
    (line : (text bs rest : List ℕ) (a : Assembly) → meaning text ≡ gives bs rest → P rest a → P text (before bs a)) where
  by_length : (n : ℕ) (text : List ℕ) → length text ≤ n → P text (assembled text)
  by_length zero [] h = subst (P []) (sym nothing) none
  by_length zero (b ∷ text) h = absurd (omega arith)
  by_length (suc n) [] h = subst (P []) (sym nothing) none
  by_length (suc n) (b ∷ text) h = go (by_length n) (meaning (b ∷ text)) refl
    where
      go : ((rest : List ℕ) → length rest ≤ n → P rest (assembled rest)) → (m : Meaning) → meaning (b ∷ text) ≡ m → P (b ∷ text) (assembled (b ∷ text))
      go ih (faulty r p) e = subst (P (b ∷ text)) (sym (line-faulty (b ∷ text) r p (omega arith) e)) (here (b ∷ text) r p (omega arith) e)
      go ih (gives bs rest) e =
          let l = gives-long (b ∷ text) bs rest e in
          subst (P (b ∷ text)) (sym (line_then (b ∷ text) bs rest e)) (line (b ∷ text) bs rest (assembled rest) e (ih rest (omega (arith, l.0, l.1))))

  pub by_lines : (text : List ℕ) → P text (assembled text)
  by_lines text = by_length (length text) text (omega arith)

-- ---- an output is no longer than its text

Short : List ℕ → Assembly → Type 0
Short text (output out) = length out ≤ length text
Short text (fault r k p) = Unit {0}

pub output-short : (text out : List ℕ) → assembled text ≡ output out → length out ≤ length text
unfolding Short
output-short text out e = subst (Short text) e (by_lines Short (omega arith) (λ t r p h q. tt) longer text)
  where
    longer : (text bs rest : List ℕ) (a : Assembly) → meaning text ≡ gives bs rest → Short rest a → Short text (before bs a)
    longer text bs rest (output out) e s = omega (arith, gives-long text bs rest e, length-append bs out)
    longer text bs rest (fault r k p) e s = tt
