-- What can be asked of every entry, of whose outcome `read` says what the answer is in the paper's terms.
use Rattle.std.specs.Prelude.{◌≡◌, ◌↔◌, ℕ, Option}
use Rattle.answers.specs.Answer.{Answer, refused_with}
use Rattle.answers.specs.Outcomes.{Outcome}

-- it is refused with n exactly if n is the number of the first of these rows that holds
abbrev pub Refuses : {A B C : Type 0} → (A → Answer C) → Outcome A B → (ℕ → Type 0) → Type 0
Refuses read o rows = (n : ℕ) → (read o.answer ≡ refused_with n) ↔ rows n

-- refused, it leaves every lent byte as it was
abbrev pub Keeps : {A B C : Type 0} → (A → Answer C) → Outcome A B → B → Type 0
Keeps read o before = (n : ℕ) → read o.answer ≡ refused_with n → o.lent ≡ before

-- a refusal returns its number and no other fact: two calls that are refused with one number answer the same, whatever was lent to them
abbrev pub Silent : {I A B C : Type 0} → (A → Answer C) → (I → Outcome A B) → Type 0
Silent {I} read entry = (i j : I) (n : ℕ) → read (entry i).answer ≡ refused_with n → read (entry j).answer ≡ refused_with n → (entry i).answer ≡ (entry j).answer

-- but for the word that 3 tells, which `word` reads: where the number is 3, they answer the same if both tell one word
abbrev pub SilentButWord : {I A B C : Type 0} → (A → Answer C) → (A → Option ℕ) → (I → Outcome A B) → Type 0
SilentButWord {I} read word entry =
    (i j : I) (n : ℕ) → read (entry i).answer ≡ refused_with n → read (entry j).answer ≡ refused_with n → (n ≡ 3 → word (entry i).answer ≡ word (entry j).answer)
    → (entry i).answer ≡ (entry j).answer
