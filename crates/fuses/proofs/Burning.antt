-- What comes of a store to a word of the row, in three ways; and what burning does to a row: burning word k, with a value other than zero, writes only its value and its mark, so that all other bytes and every record's rules stay, and it is one more burnt word.
-- Along burnings of blank words one record of facts holds, and it joins.
use mathlib.Core.Path.{◌≡◌, refl, ap, ◌∙◌}
use mathlib.Core.Bool.{Bool, true, false, cond, not, ◌&&◌, ◌||◌, and-eq-true_iff}
use mathlib.Core.Logic.{◌⊎◌, inl, inr, ⊎_map, ⊎_elim}
use mathlib.Core.List.{List}
use Prim.Native.Nat.{ℕ, zero, suc, ◌+◌, ◌*◌, ◌^◌, ◌≤◌, ◌<◌}
use native.Mathlib.Nat.{eq-or-lt_of_le}
use native.Mathlib.Omega.{arith}
use lib.ListN.{length}
use lib.Dec.{eqb, ltb, eqb-suc-zero}
use borrow.Author.Tests.{eqb-true, eqb-false, ne_eqb, ltb-true, ltb-false}
use Rattle.answers.specs.Outcomes.{Outcome, outcome}
use Rattle.word.specs.Bits.{flag, low}
use Rattle.word.specs.Bounds.{AllBelow}
use Rattle.octets.specs.Bytes.{load, store}
use Rattle.octets.proofs.Bytes.{length-store, load_store, load-store-other, store_below}
use Rattle.fuses.specs.Row.{value_at, mark_at, rest_at, keeps_rules, all_keep, Row, burnt, Stored, done, already_burnt, word_stored, burnt_words}
use Rattle.fuses.proofs.Rows.{length-burnt}

-- ---- a store to a word

-- the ways in which it can go, and what it leaves of the row
pub data WordStores (k v : ℕ) (f : List ℕ) : Outcome Stored (List ℕ) → Type 0 where
  burns : mark_at k f ≡ 0 → (low 32 v ≡ 0 → ⊥) → WordStores k v f (outcome done (burnt k v f))
  no_pulse : low 32 v ≡ 0 → WordStores k v f (outcome done f)
  refused : WordStores k v f (outcome already_burnt f)

pub stores_as : (k v : ℕ) (f : List ℕ) → WordStores k v f (word_stored k v f)
unfolding word_stored
stores_as k v f = go (eqb (mark_at k f) 0) refl (eqb (low 32 v) 0) refl
  where
    go : (b : Bool) → eqb (mark_at k f) 0 ≡ b → (c : Bool) → eqb (low 32 v) 0 ≡ c
        → WordStores k v f (cond b (outcome done (cond c f (burnt k v f))) (outcome already_burnt f))
    go true e true z = no_pulse (eqb-true _ _ z)
    go true e false z = burns (eqb-true _ _ e) (eqb-false _ _ z)
    go false e c z = refused

-- ---- one word burnt

module _ (k v : ℕ) (f : List ℕ) (h : k < 64) (l : length f ≡ 512) where
  value-length : length (store 4 (8 * k) v f) ≡ 512
  value-length = length-store 4 (8 * k) v f (omega arith) ∙ l

  -- bytes before the word's value or after its mark
  beside : (n b : ℕ) → (b + n ≤ 8 * k) ⊎ (8 * k + 5 ≤ b) → load n b (burnt k v f) ≡ load n b f
  unfolding burnt
  beside n b s =
      load-store-other 1 (8 * k + 4) 1 n b (store 4 (8 * k) v f) (⊎_map (λ q. omega arith) (λ q. omega arith) s) (omega (arith, value-length))
      ∙ load-store-other 4 (8 * k) v n b f (⊎_map (λ q. q) (λ q. omega arith) s) (omega arith)

  -- bytes of another word's record
  in_another : (j n b : ℕ) → (j ≡ k → ⊥) → 8 * j ≤ b → b + n ≤ 8 * j + 8 → load n b (burnt k v f) ≡ load n b f
  in_another j n b ne s t = beside n b (go (ltb j k) refl)
    where
      go : (c : Bool) → ltb j k ≡ c → (b + n ≤ 8 * k) ⊎ (8 * k + 5 ≤ b)
      go true e = let q : j < k = ltb-true j k e in inl (omega arith)
      go false e = let q : k ≤ j = ltb-false j k e in inr (omega arith)

  mark-here : mark_at k (burnt k v f) ≡ 1
  unfolding burnt
  mark-here = load_store 1 (8 * k + 4) 1 (store 4 (8 * k) v f) (omega (arith, value-length))

  value-here : value_at k (burnt k v f) ≡ low 32 v
  unfolding burnt
  value-here =
      load-store-other 1 (8 * k + 4) 1 4 (8 * k) (store 4 (8 * k) v f) (inl (omega arith)) (omega (arith, value-length))
      ∙ load_store 4 (8 * k) v f (omega arith)

  mark-there : (j : ℕ) → (j ≡ k → ⊥) → mark_at j (burnt k v f) ≡ mark_at j f
  mark-there j ne = in_another j 1 (8 * j + 4) ne (omega arith) (omega arith)

  value_there : (j : ℕ) → (j ≡ k → ⊥) → value_at j (burnt k v f) ≡ value_at j f
  value_there j ne = in_another j 4 (8 * j) ne (omega arith) (omega arith)

  rules_here : (low 32 v ≡ 0 → ⊥) → keeps_rules k f ≡ true → keeps_rules k (burnt k v f) ≡ true
  rules_here ne e =
      let t = ((and-eq-true_iff (eqb (rest_at k f) 0) ((eqb (mark_at k f) 1 && not (eqb (value_at k f) 0)) || (eqb (mark_at k f) 0 && eqb (value_at k f) 0))).0 e).0 in
      rw (mark-here, beside 3 (8 * k + 5) (inr (omega arith)), t, value-here, ne_eqb (low 32 v) 0 ne)

  rules_there : (j : ℕ) → (j ≡ k → ⊥) → keeps_rules j (burnt k v f) ≡ keeps_rules j f
  rules_there j ne = rw (mark-there j ne, in_another j 3 (8 * j + 5) ne (omega arith) (omega arith), value_there j ne)

  rules_kept : (j : ℕ) → (low 32 v ≡ 0 → ⊥) → keeps_rules j f ≡ true → keeps_rules j (burnt k v f) ≡ true
  rules_kept j ne r = go (eqb j k) refl
    where
      go : (c : Bool) → eqb j k ≡ c → keeps_rules j (burnt k v f) ≡ true
      go true e = let q : j ≡ k = eqb-true j k e in rw q (rules_here ne (rw q at r))
      go false e = rules_there j (eqb-false j k e) ∙ r

  all_kept : (n : ℕ) → (low 32 v ≡ 0 → ⊥) → all_keep n f ≡ true → all_keep n (burnt k v f) ≡ true
  unfolding all_keep
  all_kept zero ne e = refl
  all_kept (suc n) ne e = let t = (and-eq-true_iff (all_keep n f) (keeps_rules n f)).0 e in rw (all_kept n ne t.0) (rules_kept n ne t.1)

pub row-burnt : (k v : ℕ) (f : List ℕ) → k < 64 → (low 32 v ≡ 0 → ⊥) → Row f → Row (burnt k v f)
row-burnt k v f h ne r = (length-burnt k v f h r.0, all_kept k v f h r.0 64 ne r.1)

pub burnt_below : (k v : ℕ) (f : List ℕ) → AllBelow (2 ^ 8) f → AllBelow (2 ^ 8) (burnt k v f)
unfolding burnt
burnt_below k v f h = store_below 1 (8 * k + 4) 1 (store 4 (8 * k) v f) (store_below 4 (8 * k) v f h)

-- ---- a blank word burnt is one more

module _ (k v : ℕ) (f : List ℕ) (h : k < 64) (l : length f ≡ 512) where
  as_many : (n : ℕ) → n ≤ k → burnt_words n (burnt k v f) ≡ burnt_words n f
  unfolding burnt_words
  as_many zero q = refl
  as_many (suc n) q = rw (as_many n (omega arith), mark-there k v f h l n (λ e. omega arith))

  one_more : (n : ℕ) → k < n → mark_at k f ≡ 0 → burnt_words n (burnt k v f) ≡ burnt_words n f + 1
  unfolding burnt_words
  one_more zero q z = absurd (omega arith)
  one_more (suc n) q z =
      ⊎_elim
      (λ (e : k ≡ n). rw (← e, as_many k (omega arith), mark-here k v f h l, z) (omega arith))
      (λ (i : k < n). rw (one_more n i z, mark-there k v f h l n (λ e. omega arith)) (omega arith))
      (eq-or-lt_of_le (omega arith))

-- ---- from one row to another

-- from the row f to g, by s completed stores, and t turns of word k from blank to burnt
pub record Leads (k : ℕ) (f g : List ℕ) (s t : ℕ) : Type 0 where
  pub row : Row g
  pub words : burnt_words 64 g ≡ burnt_words 64 f + s
  pub mark : t + flag (eqb (mark_at k f) 1) ≡ flag (eqb (mark_at k g) 1)
  pub keeps : mark_at k f ≡ 1 → (mark_at k g ≡ 1) × (value_at k g ≡ value_at k f)

pub at_rest : (k : ℕ) (f : List ℕ) → Row f → Leads k f f 0 0
at_rest k f r = record { row = r; words = omega arith; mark = omega arith; keeps = λ e. (e, refl) }

pub join : {k s t s' t' : ℕ} {f g h : List ℕ} → Leads k f g s t → Leads k g h s' t' → Leads k f h (s + s') (t + t')
join a b = record {
  row = b.row;
  words = let p = a.words in let q = b.words in omega arith;
  mark = let p = a.mark in let q = b.mark in omega arith;
  keeps = λ e. let p = a.keeps e in let q = b.keeps p.0 in (q.0, q.1 ∙ p.1);
}

-- a word that does not change has no turn
no_turn : (m : ℕ) → flag (eqb m 0 && eqb m 1) ≡ 0
no_turn zero = refl
no_turn (suc m) = rw eqb-suc-zero

-- whether a step from the row f burns, and the row after it
pub data RowStep (f : List ℕ) : Bool → List ℕ → Type 0 where
  stays : RowStep f false f
  burning : (k v : ℕ) → k < 64 → mark_at k f ≡ 0 → (low 32 v ≡ 0 → ⊥) → RowStep f true (burnt k v f)

abbrev turned : ℕ → List ℕ → List ℕ → ℕ
turned k f g = flag (eqb (mark_at k f) 0 && eqb (mark_at k g) 1)

pub by_step : (k : ℕ) {f g : List ℕ} {b : Bool} → Row f → RowStep f b g → Leads k f g (flag b) (turned k f g)
by_step k {f} r stays = rw (no_turn (mark_at k f)) (at_rest k f r)
by_step k {f} r (burning j v h z ne) = record {
  row = row-burnt j v f h ne r;
  words = one_more j v f h r.0 64 h z;
  mark = mark' (eqb k j) refl;
  keeps = λ e. let other : k ≡ j → ⊥ = λ q. omega (arith, rw q at e) in (mark-there j v f h r.0 k other ∙ e, value_there j v f h r.0 k other);
}
  where
    mark' : (c : Bool) → eqb k j ≡ c → turned k f (burnt j v f) + flag (eqb (mark_at k f) 1) ≡ flag (eqb (mark_at k (burnt j v f)) 1)
    mark' true e = let q : k ≡ j = eqb-true k j e in rw (q, mark-here j v f h r.0, z)
    mark' false e = rw (mark-there j v f h r.0 k (eqb-false k j e), no_turn (mark_at k f)) (omega arith)

-- a step that burns nothing leaves the row
pub step_leaves : {f g : List ℕ} {b : Bool} → RowStep f b g → flag b ≡ 0 → g ≡ f
step_leaves stays e = refl
step_leaves (burning k v h z ne) e = absurd (omega arith)

-- ---- a burnt word's value is never zero

rule_at : (n k : ℕ) (f : List ℕ) → k < n → all_keep n f ≡ true → keeps_rules k f ≡ true
unfolding all_keep
rule_at zero k f h e = absurd (let z : ⊥ = omega arith in z)
rule_at (suc n) k f h e =
    let t = (and-eq-true_iff (all_keep n f) (keeps_rules n f)).0 e in
    ⊎_elim (λ (q : k ≡ n). rw q t.1) (λ (l : k < n). rule_at n k f l t.0) (eq-or-lt_of_le (omega arith))

pub row-not-zero : (k : ℕ) (f : List ℕ) → Row f → k < 64 → mark_at k f ≡ 1 → value_at k f ≡ 0 → ⊥
row-not-zero k f r h m z = let e = rule_at 64 k f h r.1 in omega (arith, ap flag (broken (rw (m, z) at e)))
  where
    broken : (eqb (rest_at k f) 0 && false) ≡ true → false ≡ true
    broken e = ((and-eq-true_iff (eqb (rest_at k f) 0) false).0 e).1
