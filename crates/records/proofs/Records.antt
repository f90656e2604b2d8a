-- A record's bytes, front to back: what its writer and its reader come to in each turn, and that a record reads back as its state, and bytes that are sound as their record.
use Prim.Native.Nat.{ℕ, zero, suc, ◌+◌, ◌*◌, ◌/◌, ◌^◌, ◌%◌, ◌≤◌, ◌<◌}
use native.Mathlib.Nat.{mod-eq_of_lt}
use native.Mathlib.Numerals.{add-one}
use native.Mathlib.Omega.{arith}
use mathlib.Core.Path.{◌≡◌, refl, sym, ap, ◌∙◌}
use mathlib.Core.Bool.{true}
use mathlib.Core.List.{List, [], ◌∷◌, ◌++◌, append_assoc, append-nil}
use lib.ListN.{length, take, drop, get_or, set, length-append, length-take, length-drop}
use lib.Seq.{take_at, drop_at, take-suc, take_all, take-suc-set, drop-drop, take-add}
use Rattle.octets.specs.Bytes.{little_endian, of_little_endian, load, store}
use Rattle.octets.proofs.Bytes.{length_le, length-store, of_le, load_one, load-among, load-add, all-bytes, of_lt, load_lt}
use Rattle.state.specs.declared.State.{State}
use Rattle.word.specs.Bounds.{AllBelow}
use Rattle.state.specs.Sizes.{Fits}
use Rattle.state.specs.States.{state, well_formed}
use Rattle.state.proofs.Laws.{formed_nowhere, form_passes}
use lib.Dec.{eqb}
use Rattle.answers.specs.Stops.{last_stop}
use Rattle.word.proofs.Bounds.{below_drop}
use Rattle.records.specs.Records.{words, of_words, record_of, state_of, record_checked}
use Rattle.answers.specs.Checks.{passed}

-- ---- writing

-- a store leaves what is before it, and its bytes
take-store : (n a v : ℕ) (m : List ℕ) → a + n ≤ length m → take (a + n) (store n a v m) ≡ take a m ++ little_endian n v
unfolding store
take-store n a v m h = take_at (take a m ++ little_endian n v) (drop (a + n) m) (a + n) (simp (length-append, length-take, length_le) (omega arith))

words_append : (s t : List ℕ) → words (s ++ t) ≡ words s ++ words t
unfolding words
words_append [] t = refl
words_append (v ∷ s) t = rw (words_append s t) (simp append_assoc)

words_one : (v : ℕ) → words (v ∷ []) ≡ little_endian 4 v
unfolding words
words_one v = append-nil (little_endian 4 v)

pub write_start : (v : ℕ) (m m' : List ℕ) → 4 ≤ length m → m' ≡ store 4 0 v m → take 4 m' ≡ little_endian 4 v ++ words []
unfolding words
write_start v m m' h e = rw (e, append-nil) (take-store 4 0 v m h)

-- a turn of the loop that writes the words
pub write_turn : (p x : List ℕ) (i : ℕ) (m m' : List ℕ) → i < length x → 8 + 4 * i ≤ length m
    → take (4 + 4 * i) m ≡ p ++ words (take i x) → m' ≡ store 4 (4 + 4 * i) (get_or x i 0) m
    → take (4 + 4 * (i + 1)) m' ≡ p ++ words (take (i + 1) x)
write_turn p x i m m' hx hm e e' =
    let k : 4 + 4 * (i + 1) ≡ 4 + 4 * i + 4 = omega arith in
    rw
    (e', k, take-store 4 (4 + 4 * i) (get_or x i 0) m (omega arith), e, add-one, take-suc x i 0 hx, words_append, words_one)
    (simp append_assoc)

-- a byte as four: three zeros follow it
byte_as_four : (v : ℕ) → v < 256 → little_endian 4 v ≡ little_endian 1 v ++ little_endian 3 0
unfolding little_endian
byte_as_four v h = let e : v / 256 ≡ 0 = omega arith in ap (λ (q : ℕ). v % 256 ∷ little_endian 3 q) e

-- the three numbers that follow the words
pub write_done : (p x : List ℕ) (r q a i : ℕ) (m m₁ m₂ m₃ : List ℕ) → length x ≡ 31 → i ≡ 31 → length m ≡ 144 → q < 256
    → take (4 + 4 * i) m ≡ p ++ words (take i x) → m₁ ≡ store 8 128 r m → m₂ ≡ store 4 136 q m₁ → m₃ ≡ store 4 140 a m₂
    → m₃ ≡ p ++ words x ++ little_endian 8 r ++ little_endian 1 q ++ little_endian 3 0 ++ little_endian 4 a
write_done p x r q a i m m₁ m₂ m₃ hx hi hm hq e e₁ e₂ e₃ =
    let l₁ : length m₁ ≡ 144 = ap length e₁ ∙ length-store 8 128 r m (omega arith) ∙ hm in
    let l₂ : length m₂ ≡ 144 = ap length e₂ ∙ length-store 4 136 q m₁ (omega arith) ∙ l₁ in
    let l₃ : length m₃ ≡ 144 = ap length e₃ ∙ length-store 4 140 a m₂ (omega arith) ∙ l₂ in
    let t : take 128 m ≡ p ++ words x = rw (hi, take_all 31 x (omega arith)) at e in
    let t₁ : take 136 m₁ ≡ p ++ words x ++ little_endian 8 r = rw (e₁, ← t) (take-store 8 128 r m (omega arith)) in
    let s₂ : take 140 m₂ ≡ take 136 m₁ ++ little_endian 4 q = rw e₂ (take-store 4 136 q m₁ (omega arith)) in
    let t₂ : take 140 m₂ ≡ p ++ words x ++ little_endian 8 r ++ little_endian 1 q ++ little_endian 3 0 =
    s₂ ∙ (rw (t₁, byte_as_four q hq) (sym (append_assoc (p ++ words x ++ little_endian 8 r) (little_endian 1 q) (little_endian 3 0)))) in
    let t₃ : take 144 m₃ ≡ take 140 m₂ ++ little_endian 4 a = rw e₃ (take-store 4 140 a m₂ (omega arith)) in
    sym (take_all 144 m₃ (omega arith)) ∙ t₃ ∙ (rw t₂)

-- ---- reading

load_past : (a n k : ℕ) (m : List ℕ) → load n k (drop a m) ≡ load n (a + k) m
unfolding load
load_past a n k m = rw drop-drop

of-words-suc : (n : ℕ) (m : List ℕ) → of_words (suc n) m ≡ of_words n m ++ (load 4 (4 * n) m ∷ [])
unfolding of_words load
of-words-suc zero m = refl
of-words-suc (suc n) m =
    let k : 4 * suc n ≡ 4 + 4 * n = omega arith in
    rw (k, ← (load_past 4 4 (4 * n) m)) (ap (λ (l : List ℕ). of_little_endian (take 4 m) ∷ l) (of-words-suc n (drop 4 m)))

-- a turn of the loop that reads the words
pub read_turn : (m x : List ℕ) (i v : ℕ) → i < length x → take i x ≡ of_words i (drop 4 m) → v ≡ load 4 (4 + 4 * i) m
    → take (i + 1) (set x i v) ≡ of_words (i + 1) (drop 4 m)
read_turn m x i v hx e e' = rw (add-one, take-suc-set x i v hx, of-words-suc, load_past, e, e')

-- the three bytes that follow the stop number
pub after_stop : (m : List ℕ) → 144 ≤ length m → get_or m 136 0 < 256 → load 4 136 m / 256 ≡ load 3 137 m
after_stop m h b = omega (arith, load-add 1 3 136 m (omega arith), load_one 136 m (omega arith))

-- ---- a record reads back

length-words : (x : List ℕ) → length (words x) ≡ 4 * length x
unfolding words
length-words [] = refl
length-words (v ∷ x) = rw (length-append, length_le) (omega (arith, length-words x))

words_back : (x r : List ℕ) → AllBelow (2 ^ 32) x → of_words (length x) (words x ++ r) ≡ x
unfolding words of_words
words_back [] r h = refl
words_back (v ∷ x) r h =
    rw (
      append_assoc (little_endian 4 v) (words x) r,
      take_at (little_endian 4 v) (words x ++ r) 4 (length_le 4 v),
      drop_at (little_endian 4 v) (words x ++ r) 4 (length_le 4 v),
      of_le 4 v,
      mod-eq_of_lt h.0,
      words_back x r h.1,
    )

-- a record's bytes with their lengths
module _ (s : State) (l : length s.x ≡ 31) where
  length_words_31 : length (words s.x) ≡ 124
  length_words_31 = omega (arith, length-words s.x)

  pub length_record : length (record_of s) ≡ 144
  unfolding record_of
  length_record = let w = length_words_31 in simp (length-append, length_le) (omega arith)

  pub rest_zero : load 3 137 (record_of s) ≡ 0
  unfolding record_of
  rest_zero =
      let w = length_words_31 in
      let p : List ℕ = little_endian 4 s.pc ++ words s.x ++ little_endian 8 s.count ++ little_endian 1 s.stop in
      load-among 3 137 0 p (little_endian 4 s.address) (simp (length-append, length_le) (omega arith))

pub read_back : (s : State) → Fits s → state_of (record_of s) ≡ s
unfolding state_of record_of
read_back s h =
    let a = little_endian 4 s.pc in
    let w = words s.x in
    let r = little_endian 8 s.count in
    let q = little_endian 1 s.stop in
    let z = little_endian 3 0 in
    let d = little_endian 4 s.address in
    let lw = length_words_31 s h.x_length in
    let all = a ++ w ++ r ++ q ++ z ++ d in
    let pc-first : all ≡ a ++ (w ++ (r ++ (q ++ (z ++ d)))) = simp append_assoc in
    let count_next : all ≡ a ++ w ++ r ++ (q ++ (z ++ d)) = simp append_assoc in
    let stop-next : all ≡ a ++ w ++ r ++ q ++ (z ++ d) = append_assoc (a ++ w ++ r ++ q) z d in
    let pc : load 4 0 all ≡ s.pc = ap (load 4 0) pc-first ∙ load-among 4 0 s.pc [] (w ++ (r ++ (q ++ (z ++ d)))) refl ∙ mod-eq_of_lt h.pc_fits in
    let x : of_words 31 (drop 4 all) ≡ s.x =
    rw (pc-first, drop_at a (w ++ (r ++ (q ++ (z ++ d)))) 4 (length_le 4 s.pc), ← h.x_length) (words_back s.x (r ++ (q ++ (z ++ d))) h.x_fits) in
    let count : load 8 128 all ≡ s.count =
    ap (load 8 128) count_next ∙ load-among 8 128 s.count (a ++ w) (q ++ (z ++ d)) (simp (length-append, length_le) (omega arith))
    ∙ mod-eq_of_lt h.count_fits in
    let stop : load 1 136 all ≡ s.stop =
    ap (load 1 136) stop-next ∙ load-among 1 136 s.stop (a ++ w ++ r) (z ++ d) (simp (length-append, length_le) (omega arith))
    ∙ mod-eq_of_lt h.stop_fits in
    let address : load 4 140 all ≡ s.address =
    ap (load 4 140) (sym (append-nil all)) ∙ load-among 4 140 s.address (a ++ w ++ r ++ q ++ z) [] (simp (length-append, length_le) (omega arith))
    ∙ mod-eq_of_lt h.address_fits in
    rw (pc, x, count, stop, address)

-- it may be read where its state is well-formed
pub record_sound : (s : State) → Fits s → well_formed s ≡ true → record_checked (record_of s) ≡ passed
record_sound s h w = rw (read_back s h) (form_passes (eqb (load 3 137 (record_of s)) 0) s (rw (rest_zero s h.x_length)) w)

-- ---- bytes read and written back

-- n bytes are those of the number that they say
le_of : (n : ℕ) (m : List ℕ) → n ≤ length m → AllBelow (2 ^ 8) m → little_endian n (of_little_endian (take n m)) ≡ take n m
unfolding little_endian of_little_endian
le_of zero m h b = refl
le_of (suc n) [] h b = absurd (omega arith)
le_of (suc n) (v ∷ m) h b =
    let low : (v + 256 * of_little_endian (take n m)) % 256 ≡ v = omega (arith, b.0) in
    let high : (v + 256 * of_little_endian (take n m)) / 256 ≡ of_little_endian (take n m) = omega (arith, b.0) in
    rw (low, high, le_of n m (omega arith) b.1)

bytes_back : (n a : ℕ) (m : List ℕ) → a + n ≤ length m → AllBelow (2 ^ 8) m → little_endian n (load n a m) ≡ take n (drop a m)
unfolding load
bytes_back n a m h b = le_of n (drop a m) (rw length-drop (omega arith)) (below_drop (2 ^ 8) a m b)

of_words_back : (n : ℕ) (m : List ℕ) → 4 * n ≤ length m → AllBelow (2 ^ 8) m → words (of_words n m) ≡ take (4 * n) m
unfolding words of_words
of_words_back zero m h b = refl
of_words_back (suc n) m h b =
    let k : 4 * suc n ≡ 4 + 4 * n = omega arith in
    rw (k, take-add 4 (4 * n) m, le_of 4 m (omega arith) b, of_words_back n (drop 4 m) (rw length-drop (omega arith)) (below_drop (2 ^ 8) 4 m b))

-- 144 bytes of which 137 to 139 are zero are the record of the state that they say
pub write_back : (m : List ℕ) → length m ≡ 144 → AllBelow (2 ^ 8) m → load 3 137 m ≡ 0 → record_of (state_of m) ≡ m
unfolding record_of state_of
write_back m l b z =
    let rest : little_endian 3 0 ≡ take 3 (drop 137 m) = ap (little_endian 3) (sym z) ∙ bytes_back 3 137 m (omega arith) b in
    let joined : (a n : ℕ) → take a m ++ take n (drop a m) ≡ take (a + n) m = λ a n. sym (take-add a n m) in
    rw (
      bytes_back 4 0 m (omega arith) b,
      of_words_back 31 (drop 4 m) (rw length-drop (omega arith)) (below_drop (2 ^ 8) 4 m b),
      bytes_back 8 128 m (omega arith) b,
      bytes_back 1 136 m (omega arith) b,
      rest,
      bytes_back 4 140 m (omega arith) b,
      joined 4 124,
      joined 128 8,
      joined 136 1,
      joined 137 3,
      joined 140 4,
    )
    (take_all 144 m (omega arith))

-- ---- the state that bytes say fits

of_words_below : (n : ℕ) (m : List ℕ) → AllBelow (2 ^ 8) m → AllBelow (2 ^ 32) (of_words n m)
unfolding of_words
of_words_below zero m h = tt
of_words_below (suc n) m h = (of_lt 4 m (all-bytes m h), of_words_below n (drop 4 m) (below_drop (2 ^ 8) 4 m h))

length-of-words : (n : ℕ) (m : List ℕ) → length (of_words n m) ≡ n
unfolding of_words
length-of-words zero m = refl
length-of-words (suc n) m = ap suc (length-of-words n (drop 4 m))

pub bytes_fit : (m : List ℕ) → AllBelow (2 ^ 8) m → Fits (state_of m)
unfolding state_of
bytes_fit m h = record {
  pc_fits = load_lt 4 0 m h;
  x_length = length-of-words 31 (drop 4 m);
  x_fits = of_words_below 31 (drop 4 m) (below_drop (2 ^ 8) 4 m h);
  count_fits = load_lt 8 128 m h;
  stop_fits = load_lt 1 136 m h;
  address_fits = load_lt 4 140 m h;
}

-- ---- records whose bytes 137 to 143 are all zero

pub old_record : (m : List ℕ) → length m ≡ 144 → load 4 0 m % 2 ≡ 0 → load 1 136 m ≤ last_stop → load 7 137 m ≡ 0
    → (record_checked m ≡ passed) × (state_of m ≡ state (load 4 0 m) (of_words 31 (drop 4 m)) (load 8 128 m) (load 1 136 m) 0)
unfolding state_of
old_record m l even known z =
    let sum = load-add 3 4 137 m (omega arith) in
    let address : load 4 140 m ≡ 0 = omega arith in
    let rest : load 3 137 m ≡ 0 = omega arith in (
      form_passes (eqb (load 3 137 m) 0) (state_of m) (rw rest) (formed_nowhere (state_of m) even known address),
      ap (λ a. state (load 4 0 m) (of_words 31 (drop 4 m)) (load 8 128 m) (load 1 136 m) a) address,
    )
