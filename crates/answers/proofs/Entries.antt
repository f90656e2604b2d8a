-- The laws of an entry's shape: its tests decide, so its rows say when it is refused, a refusal leaves what was lent and says its number alone.
use mathlib.Core.Path.{◌≡◌, refl, sym, ap, subst, ◌∙◌}
use mathlib.Core.Logic.{◌↔◌, ⊎_elim}
use native.Mathlib.Omega.{arith}
use Prim.Native.Nat.{ℕ}
use Rattle.answers.specs.Checks.{word_told, Check, passed}
use Rattle.answers.specs.Answer.{Answer, given, refused_with, refused}
use Rattle.answers.specs.Refusals.{number_of, word_of}
use Rattle.answers.specs.Outcomes.{Outcome, outcome, decided}
use Rattle.answers.specs.Entries.{Refuses, Keeps, Silent, SilentButWord}
use Rattle.answers.proofs.Numbers.{number_of_one, three_tells}
use Rattle.answers.proofs.Order.{apart, same_number, RefusedBy, Says}
use Rattle.answers.specs.declared.Refusal.{Refusal}
use Rattle.std.specs.Prelude.{Err, None, Ok, Option}

-- what an entry comes to where its check was found to be a refusal, or to pass
pub is-refused : {A B : Type 0} {c d : Check} {r : Refusal} (o : Outcome A B) (refusal : Refusal → A) (before : B) → c ≡ d → c ≡ Err r
    → outcome (refusal r) before ≡ decided d o refusal before
unfolding decided
is-refused o refusal before found e = rw (← found, e)

pub is-given : {A B : Type 0} {c d : Check} {p o : Outcome A B} (refusal : Refusal → A) (before : B) → c ≡ d → c ≡ passed → p ≡ o → p ≡ decided d o refusal before
unfolding decided
is-given refusal before found e h = rw (← found, e) h

-- a check that is never refused with 3 tells no word
untold : (c : Check) {n : ℕ} (r : Refusal) → number_of r ≡ n → RefusedBy c n → (RefusedBy c 3 → ⊥) → word_of r ≡ None
untold c r e by never = ⊎_elim (λ f. absurd (never (subst (RefusedBy c) (sym e ∙ f.0) by))) (λ z. z.1) (three_tells r)

-- `refusal` answers a refusal, which `read` reads as its number
module _ {A B C : Type 0} (read : A → Answer C) (refusal : Refusal → A) (reads : (r : Refusal) → read (refusal r) ≡ refused r) where
  pub exactly : (c : Check) (o : Outcome A B) (before : B) {v : C} {rows : ℕ → Type 0} → read o.answer ≡ given v → Says c rows
      → Refuses read (decided c o refusal before) rows
  unfolding decided
  exactly (Ok u) o before e q n = (λ t. absurd (apart (sym e ∙ t)), λ t. absurd ((q n).1 t))
  exactly (Err r) o before e q n = (λ t. (q n).0 (same_number (sym t ∙ reads r)), λ t. reads r ∙ ap refused_with (sym ((q n).1 t)))

  -- it is refused with no number exactly if its tests pass
  pub accepts : (c : Check) (o : Outcome A B) (before : B) {v : C} → read o.answer ≡ given v
      → ((n : ℕ) → read (decided c o refusal before).answer ≡ refused_with n → ⊥) ↔ (c ≡ passed)
  unfolding decided
  accepts (Ok u) o before e = (λ f. refl, λ p n t. apart (sym e ∙ t))
  accepts (Err r) o before e = (λ f. absurd (f (number_of r) (reads r)), λ p n t. let z : ◌≡◌ {A = ℕ} 0 1 = cc in omega arith)

  pub keeps_lent : (c : Check) (o : Outcome A B) (before : B) {v : C} → read o.answer ≡ given v → Keeps read (decided c o refusal before) before
  unfolding decided
  keeps_lent (Ok u) o before e n t = absurd (apart (sym e ∙ t))
  keeps_lent (Err r) o before e n t = refl

  -- the refusal that it was
  pub refused_as : (c : Check) (o : Outcome A B) (before : B) {v : C} (n : ℕ) → read o.answer ≡ given v → read (decided c o refusal before).answer ≡ refused_with n
      → (r : Refusal) × ((decided c o refusal before).answer ≡ refusal r) × (number_of r ≡ n) × RefusedBy c n
  unfolding decided
  refused_as (Ok u) o before n e t = absurd (apart (sym e ∙ t))
  refused_as (Err r) o before n e t = (r, refl, same_number (sym (reads r) ∙ t), same_number (sym t ∙ reads r))

  -- of which `word` reads the word that it tells
  pub tells_as : (word : A → Option ℕ) → ((r : Refusal) → word (refusal r) ≡ word_of r) → (c : Check) (o : Outcome A B) (before : B) {v : C} (n : ℕ)
      → read o.answer ≡ given v → read (decided c o refusal before).answer ≡ refused_with n → RefusedBy c n × (word (decided c o refusal before).answer ≡ word_told c)
  unfolding decided
  tells_as word tells (Ok u) o before n e t = absurd (apart (sym e ∙ t))
  tells_as word tells (Err r) o before n e t = (same_number (sym t ∙ reads r), tells r)

  pub silent : {I : Type 0} (c : I → Check) (o : I → Outcome A B) (before : I → B) (v : I → C) → ((i : I) → read (o i).answer ≡ given (v i))
      → ((i : I) → RefusedBy (c i) 3 → ⊥) → Silent read (λ i. decided (c i) (o i) refusal (before i))
  silent c o before v e never i j n s t =
      let p = refused_as (c i) (o i) (before i) n (e i) s in
      let q = refused_as (c j) (o j) (before j) n (e j) t in
      let one : word_of p.0 ≡ word_of q.0 = untold (c i) p.0 p.2 p.3 (never i) ∙ sym (untold (c j) q.0 q.2 q.3 (never j)) in
      p.1 ∙ ap refusal (number_of_one (p.2 ∙ sym q.2) one) ∙ sym q.1

  pub silent_but_word : (word : A → Option ℕ) → ((r : Refusal) → word (refusal r) ≡ word_of r) → {I : Type 0} (c : I → Check) (o : I → Outcome A B) (before : I → B) (v : I → C)
      → ((i : I) → read (o i).answer ≡ given (v i)) → SilentButWord read word (λ i. decided (c i) (o i) refusal (before i))
  silent_but_word word tells c o before v e i j n s t same =
      let p = refused_as (c i) (o i) (before i) n (e i) s in
      let q = refused_as (c j) (o j) (before j) n (e j) t in
      let w : n ≡ 3 → word_of p.0 ≡ word_of q.0 = λ three. sym (ap word p.1 ∙ tells p.0) ∙ same three ∙ ap word q.1 ∙ tells q.0 in
      let one : word_of p.0 ≡ word_of q.0 =
      ⊎_elim (λ f. w (sym p.2 ∙ f.0)) (λ z. ⊎_elim (λ g. w (sym q.2 ∙ g.0)) (λ y. z.1 ∙ sym y.1) (three_tells q.0)) (three_tells p.0) in
      p.1 ∙ ap refusal (number_of_one (p.2 ∙ sym q.2) one) ∙ sym q.1
