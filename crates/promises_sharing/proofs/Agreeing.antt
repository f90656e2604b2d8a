-- Rows that agree at some bytes: what is loaded from there is the same, burning the same word of both leaves them agreeing, and burning a word leaves all bytes of the others.
use mathlib.Core.Path.{◌≡◌, refl, sym, ap, ◌∙◌}
use mathlib.Core.List.{List, [], ◌∷◌, ◌++◌, append_assoc}
use mathlib.Core.Logic.{◌⊎◌, inl, inr, ⊎_elim, ⊎_map}
use Prim.Native.Nat.{ℕ, zero, suc, ◌+◌, ◌-◌, ◌*◌, ◌/◌, ◌≤◌, ◌<◌}
use native.Mathlib.Omega.{arith}
use lib.ListN.{length, take, drop, get_or, length-take, length-drop, get_or-append}
use lib.Seq.{length-take-le, get_or-append-add, get_or-take, get_or-drop, ext_get_or}
use Rattle.word.proofs.Bools.{below}
use Rattle.octets.specs.Bytes.{little_endian, of_little_endian, load, store}
use Rattle.octets.proofs.Bytes.{length_le, length-store, load-store-other}
use Rattle.fuses.specs.Row.{burnt}
use Rattle.fuses.proofs.Rows.{length-burnt}
use Rattle.promises_sharing.specs.Sharing.{Agree}

-- ---- two lists

pub agree_refl : (p : ℕ → Type 0) (f : List ℕ) → Agree p f f
agree_refl p f = record { long = refl; same = λ i q. refl }

pub agree_trans : {p : ℕ → Type 0} {f g h : List ℕ} → Agree p f g → Agree p g h → Agree p f h
agree_trans d e = record { long = d.long ∙ e.long; same = λ i q. d.same i q ∙ e.same i q }

-- at fewer bytes
pub agree_at : {p q : ℕ → Type 0} {f g : List ℕ} → ((i : ℕ) → q i → p i) → Agree p f g → Agree q f g
agree_at s e = record { long = e.long; same = λ i q. e.same i (s i q) }

-- n bytes from a
pub agree_load : {p : ℕ → Type 0} {f g : List ℕ} (n a : ℕ) → Agree p f g → ((i : ℕ) → i < n → p (a + i)) → load n a f ≡ load n a g
unfolding load
agree_load {p} {f} {g} n a e w =
    ap of_little_endian (ext_get_or 0 (take n (drop a f)) (take n (drop a g)) (simp (length-take, length-drop, e.long)) (λ i l.
    let b : i < n = omega (arith, length-take n (drop a f)) in
    get_or-take n (drop a f) i 0 b ∙ get_or-drop a f i 0 ∙ e.same (a + i) (w i b) ∙ sym (get_or-take n (drop a g) i 0 b ∙ get_or-drop a g i 0)))

-- ---- a store

-- a byte is a load of one
byte : (m : List ℕ) (i : ℕ) → get_or m i 0 ≡ load 1 i m
unfolding load of_little_endian
byte [] zero = refl
byte [] (suc i) = refl
byte (x ∷ m) zero = omega arith
byte (x ∷ m) (suc i) = byte m i

module _ (n a v : ℕ) (m : List ℕ) (h : a + n ≤ length m) where
  get_beside : (i : ℕ) → (i < a) ⊎ (a + n ≤ i) → get_or (store n a v m) i 0 ≡ get_or m i 0
  get_beside i s = byte (store n a v m) i ∙ load-store-other n a v 1 i m (⊎_map (λ l. omega arith) (λ l. l) s) h ∙ sym (byte m i)

  get_within : (i : ℕ) → a ≤ i → i < a + n → get_or (store n a v m) i 0 ≡ get_or (little_endian n v) (i - a) 0
  unfolding store
  get_within i l u =
      let e : length (take a m) + (i - a) ≡ i = omega (arith, length-take-le a m (omega arith)) in
      ap (λ s. get_or s i 0) (append_assoc (take a m) (little_endian n v) (drop (a + n) m))
      ∙ ap (λ j. get_or (take a m ++ (little_endian n v ++ drop (a + n) m)) j 0) (sym e)
      ∙ get_or-append-add (take a m) (little_endian n v ++ drop (a + n) m) (i - a) 0
      ∙ get_or-append (little_endian n v) (drop (a + n) m) 0 (i - a) (omega (arith, length_le n v))

-- a byte is before, within or after the bytes stored
agree_store : {p : ℕ → Type 0} {f g : List ℕ} (n a v : ℕ) → a + n ≤ length f → Agree p f g → Agree p (store n a v f) (store n a v g)
agree_store {p} {f} {g} n a v h e =
    let k : a + n ≤ length g = omega (arith, e.long) in
    record {
      long = length-store n a v f h ∙ e.long ∙ sym (length-store n a v g k);
      same = λ i q.
          let beside : (i < a) ⊎ (a + n ≤ i) → get_or (store n a v f) i 0 ≡ get_or (store n a v g) i 0 =
          λ s. get_beside n a v f h i s ∙ e.same i q ∙ sym (get_beside n a v g k i s) in
          ⊎_elim (λ l. beside (inl l))
          (λ l. ⊎_elim (λ u. get_within n a v f h i l u ∙ sym (get_within n a v g k i l u)) (λ u. beside (inr u)) (below i (a + n)))
          (below i a);
    }

-- ---- word k burnt

module _ (k v : ℕ) (h : k < 64) where
  pub agree_burnt : {p : ℕ → Type 0} {f g : List ℕ} → length f ≡ 512 → Agree p f g → Agree p (burnt k v f) (burnt k v g)
  unfolding burnt
  agree_burnt {p} {f} {g} l e =
      agree_store 1 (8 * k + 4) 1 (rw (length-store 4 (8 * k) v f (omega arith)) (omega arith)) (agree_store 4 (8 * k) v (omega arith) e)

  -- the other words stay
  pub burnt_beside : (f : List ℕ) → length f ≡ 512 → Agree (λ i. i / 8 ≡ k → ⊥) (burnt k v f) f
  unfolding burnt
  burnt_beside f l = record {
    long = length-burnt k v f h l ∙ sym l;
    same = λ i ne. ⊎_elim (λ b. stays i (inl b)) (λ b. ⊎_elim (λ c. absurd (ne (omega arith))) (λ c. stays i (inr c)) (below i (8 * k + 8))) (below i (8 * k));
  }
    where
      stays : (i : ℕ) → (i < 8 * k) ⊎ (8 * k + 8 ≤ i) → get_or (burnt k v f) i 0 ≡ get_or f i 0
      stays i s =
          let t : 8 * k + 4 ≤ length f = omega arith in
          get_beside 1 (8 * k + 4) 1 (store 4 (8 * k) v f) (rw (length-store 4 (8 * k) v f t) (omega arith)) i (⊎_map (λ b. omega arith) (λ b. omega arith) s)
          ∙ get_beside 4 (8 * k) v f t i (⊎_map (λ b. b) (λ b. omega arith) s)
