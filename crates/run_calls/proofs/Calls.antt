-- The word of a refusal in its place, and a call that `answer` made of what a run answered.
use mathlib.Core.Path.{◌≡◌, sym, ap, ◌∙◌}
use mathlib.Core.Logic.{⊎_elim}
use Prim.Native.Nat.{ℕ}
use Rattle.answers.specs.Outcomes.{Outcome, outcome}
use Rattle.answers.specs.Refusals.{number_of, word_of}
use Rattle.answers.specs.Replies.{placed}
use Rattle.answers.proofs.Numbers.{three_tells}
use Rattle.answers.specs.declared.Refusal.{Refusal}
use Rattle.resume.specs.Resuming.{Bench, resume_entry}
use Rattle.run_calls.specs.Runs.{answered, resume_call}
use Rattle.std.specs.Prelude.{Err, None, Result}

module _ (r : Refusal) (retired word : ℕ) {n : ℕ} (number : n ≡ number_of r) where
  -- 3 tells a word
  pub word_told_lem : {v : ℕ} → n ≡ 3 → v ≡ placed (word_of r) 0 → outcome n (retired, v) ≡ answered (Err r) retired word
  word_told_lem e w =
      let v : placed (word_of r) 0 ≡ placed (word_of r) word = ⊎_elim (λ t. sym (t.1 word)) (λ t. absurd (t.0 (sym number ∙ e))) (three_tells r) in
      rw (w, v, number)

  -- no other refusal does
  pub no_word : (n ≡ 3 → ⊥) → outcome n (retired, word) ≡ answered (Err r) retired word
  no_word f =
      let w : word_of r ≡ None = ⊎_elim (λ t. absurd (f (number ∙ t.0))) (λ t. t.1) (three_tells r) in
      rw (w, number)

-- a run's answer and what it leaves, as a call
pub resume_called : (budget k : ℕ) (h : Bench) (retired word : ℕ) {n m v : ℕ} {done : Result ℕ Refusal} {left : Bench} → outcome n (m, v) ≡ answered done retired word
    → outcome done left ≡ resume_entry budget k h → outcome n ((m, v), left) ≡ resume_call budget k h retired word
resume_called budget k h retired word {left = left} a e =
    ap (λ (p : Outcome ℕ (ℕ × ℕ)). outcome p.answer (p.lent, left)) a
    ∙ ap (λ (o : Outcome (Result ℕ Refusal) Bench). outcome (answered o.answer retired word).answer ((answered o.answer retired word).lent, o.lent)) e
