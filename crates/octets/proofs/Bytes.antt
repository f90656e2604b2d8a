-- Little-endian numbers, over the width: a load or a store of n + k bytes is one of n and one of k, a load beside a store is what it was, and bytes stay bytes.
use Prim.Native.Nat.{ℕ, zero, suc, ◌+◌, ◌-◌, ◌*◌, ◌/◌, ◌%◌, ◌^◌, ◌≤◌, ◌<◌}
use native.Mathlib.Nat.{add_assoc, zero-add, suc-add, mul_assoc, div-one, div-div-eq-div-mul, pow-suc}
use native.Mathlib.Numerals.{add-one}
use native.Mathlib.Omega.{arith}
use mathlib.Core.Path.{◌≡◌, refl, sym, ap, ◌∙◌}
use mathlib.Core.Logic.{◌⊎◌, inl, inr}
use mathlib.Core.List.{List, [], ◌∷◌, ◌++◌, append_assoc}
use Rattle.word.specs.Bounds.{AllBelow}
use Rattle.word.proofs.Bounds.{below_append, below_take, below_drop, below_get}
use lib.ListN.{length, take, drop, get_or, set, replicate, length-append, length-take, length-drop, take-append-drop}
use lib.Seq.{take-append-le, take-suc, take_all, drop-append-le, take-add, drop-drop, length-take-le, take_at, drop_at, drop-cons, set_split, append_snoc, get_or-drop}
use lib.Pow.{pow_pos, pow-add, shr-shr, field, mod-mod-pow, mod-pow-add}
use Rattle.std.specs.Int.{w64, byte_at, byte_worth, bytes_low_first, sum_through, from_le_bytes, to_le_bytes}
use Rattle.octets.specs.Bytes.{little_endian, of_little_endian, load, store}

eight : (n : ℕ) → 8 * suc n ≡ 8 * n + 8
eight n = omega arith

-- ---- the bytes of a number, and the number of bytes

pub length_le : (n v : ℕ) → length (little_endian n v) ≡ n
unfolding little_endian
length_le zero v = refl
length_le (suc n) v = ap suc (length_le n (v / 256))

le_add : (n k v : ℕ) → little_endian (n + k) v ≡ little_endian n v ++ little_endian k (v / 2 ^ (8 * n))
unfolding little_endian
le_add zero k v = rw (zero-add, div-one)
le_add (suc n) k v =
    let e : 8 * suc n ≡ 8 + 8 * n = omega arith in
    rw (suc-add, e, ← (shr-shr v 8 (8 * n)), le_add n k (v / 256))

byte_of : (i v : ℕ) → byte_at i v ≡ v / 256 ^ i % 256
byte_of zero v = rw div-one
byte_of (suc i) v = refl

-- the first n of the bytes of a number from its byte i on
take_low : (n i k v : ℕ) → n ≤ k → take n (bytes_low_first i k v) ≡ little_endian n (v / 256 ^ i)
unfolding little_endian
take_low zero i k v h = refl
take_low (suc n) i zero v h = absurd (omega arith)
take_low (suc n) i (suc k) v h =
    let e : v / 256 ^ i / 256 ≡ v / 256 ^ suc i = rw (div-div-eq-div-mul v (256 ^ i) 256, ← (pow-suc 256 i)) in
    rw (byte_of, take_low n (suc i) k v (omega arith), e)

-- the first n that `to_le_bytes` gives
pub low_bytes : (n v : ℕ) → n ≤ 8 → take n (to_le_bytes w64 v) ≡ little_endian n v
low_bytes n v h = take_low n 0 8 v h ∙ rw div-one

le_mod : (n v : ℕ) → little_endian n (v % 2 ^ (8 * n)) ≡ little_endian n v
unfolding little_endian
le_mod zero v = refl
le_mod (suc n) v = rw (eight n, mod-mod-pow v (8 * n) 8, field v (8 * n) 8, le_mod n (v / 256))

of_append : (s t : List ℕ) → of_little_endian (s ++ t) ≡ of_little_endian s + of_little_endian t * 2 ^ (8 * length s)
unfolding of_little_endian
of_append [] t = omega arith
of_append (b ∷ s) t =
    rw (eight (length s), pow-add 2 (8 * length s) 8, ← (mul_assoc (of_little_endian t) (2 ^ (8 * length s)) (2 ^ 8)))
    (omega (arith, of_append s t))

pub of_le : (n v : ℕ) → of_little_endian (little_endian n v) ≡ v % 2 ^ (8 * n)
unfolding little_endian of_little_endian
of_le zero v = omega arith
of_le (suc n) v = rw (eight n, mod-pow-add v (8 * n) 8) (omega (arith, of_le n (v / 256)))

-- ---- the number that `from_le_bytes` gives

powers : (n : ℕ) → 256 ^ n ≡ 2 ^ (8 * n)
powers zero = refl
powers (suc n) = rw (eight n, pow-suc, pow-add 2 (8 * n) 8, powers n)

sum_le : (n : ℕ) (s : List ℕ) → n < length s → sum_through (λ i. byte_worth i (get_or s i 0)) n ≡ of_little_endian (take (suc n) s)
unfolding of_little_endian
sum_le zero [] h = absurd (omega arith)
sum_le zero (b ∷ s) h = omega arith
sum_le (suc n) s h =
    let l : length (take (suc n) s) ≡ suc n = length-take-le (suc n) s (omega arith) in
    rw (take-suc s (suc n) 0 h, of_append, l, sum_le n s (omega arith), powers (suc n)) (omega arith)

zeros_say : (n k : ℕ) → of_little_endian (drop n (replicate k 0)) ≡ 0
unfolding of_little_endian
zeros_say zero zero = refl
zeros_say zero (suc k) = omega (arith, zeros_say zero k)
zeros_say (suc n) zero = refl
zeros_say (suc n) (suc k) = zeros_say n k

-- of n bytes and the zeros that fill up eight
padded : (n : ℕ) (s : List ℕ) → length s ≡ n → n ≤ 8 → from_le_bytes w64 (s ++ drop n (replicate 8 0)) ≡ of_little_endian s
padded n s l h =
    let e : length (s ++ drop n (replicate 8 0)) ≡ 8 = rw (length-append, length-drop, l) (omega arith) in
    sum_le 7 (s ++ drop n (replicate 8 0)) (omega arith) ∙ rw (take_all 8 (s ++ drop n (replicate 8 0)) (omega arith), of_append, zeros_say) (omega arith)

-- ---- loads

-- the part of m from a that stands before the zeros
pub load_padded : (n a : ℕ) (m part : List ℕ) → a + n ≤ length m → n ≤ 8 → part ≡ take (a + n - a) (drop a m)
    → from_le_bytes w64 (part ++ drop n (replicate 8 0)) ≡ load n a m
unfolding load
load_padded n a m part h l e =
    let k : a + n - a ≡ n = omega arith in
    rw (e, k) (padded n (take n (drop a m)) (length-take-le n (drop a m) (rw length-drop (omega arith))) l)

pub load_one : (a : ℕ) (m : List ℕ) → a + 1 ≤ length m → get_or m a 0 ≡ load 1 a m
unfolding load of_little_endian
load_one a m h = let l : a < length m = omega arith in rw (drop-cons m a 0 l) (omega arith)

-- the number among bytes before and after it
pub load-among : (n a v : ℕ) (p q : List ℕ) → length p ≡ a → load n a (p ++ little_endian n v ++ q) ≡ v % 2 ^ (8 * n)
unfolding load
load-among n a v p q h =
    rw (append_assoc p (little_endian n v) q, drop_at p (little_endian n v ++ q) a h, take_at (little_endian n v) q n (length_le n v), of_le)

pub load-add : (n k a : ℕ) (m : List ℕ) → a + n ≤ length m → load (n + k) a m ≡ load n a m + load k (a + n) m * 2 ^ (8 * n)
unfolding load
load-add n k a m h =
    let l : length (take n (drop a m)) ≡ n = length-take-le n (drop a m) (rw length-drop (omega arith)) in
    rw (take-add, drop-drop, of_append, l)

-- ---- stores

pub length-store : (n a v : ℕ) (m : List ℕ) → a + n ≤ length m → length (store n a v m) ≡ length m
unfolding store
length-store n a v m h = simp (length-append, length-take, length-drop, length_le) (omega arith)

pub store_one : (a v : ℕ) (m : List ℕ) → a + 1 ≤ length m → v < 256 → set m a v ≡ store 1 a v m
unfolding store little_endian
store_one a v m h f =
    let l : a < length m = omega arith in
    let e : v % 256 ≡ v = omega arith in
    rw (set_split m a v l, e, add-one) (sym (append_snoc (take a m) v (drop (suc a) m)))

pub store-add : (n k a v : ℕ) (m : List ℕ) → a + n ≤ length m
    → store k (a + n) (v / 2 ^ (8 * n)) (store n a (v % 2 ^ (8 * n)) m) ≡ store (n + k) a v m
unfolding store
store-add n k a v m h =
    let p : List ℕ = take a m ++ little_endian n v in
    let l : length p ≡ a + n = simp (length-append, length-take, length_le) (omega arith) in
    rw (
      le_mod n v,
      ← (drop-drop k (a + n) (p ++ drop (a + n) m)),
      take_at p (drop (a + n) m) (a + n) l,
      drop_at p (drop (a + n) m) (a + n) l,
      drop-drop,
      le_add,
    )
    (simp (append_assoc, add_assoc))

pub store_mod : (n a v : ℕ) (m : List ℕ) → store n a (v % 2 ^ (8 * n)) m ≡ store n a v m
unfolding store
store_mod n a v m = rw (le_mod n v)

pub load_store : (n a v : ℕ) (m : List ℕ) → a + n ≤ length m → load n a (store n a v m) ≡ v % 2 ^ (8 * n)
unfolding store
load_store n a v m h = load-among n a v (take a m) (drop (a + n) m) (length-take-le a m (omega arith))

-- ---- loads beside a store

load-front : (k b : ℕ) (p q : List ℕ) → b + k ≤ length p → take k (drop b (p ++ q)) ≡ take k (drop b p)
load-front k b p q h =
    rw (drop-append-le b p q (omega arith)) (take-append-le k (drop b p) q (rw length-drop (omega arith)))

pub load-store-other : (n a v k b : ℕ) (m : List ℕ) → (b + k ≤ a) ⊎ (a + n ≤ b) → a + n ≤ length m → load k b (store n a v m) ≡ load k b m
unfolding load store
load-store-other n a v k b m (inl h) l =
    let s : b + k ≤ length (take a m) = rw length-take (omega arith) in
    let e : take k (drop b m) ≡ take k (drop b (take a m)) = rw take-append-drop at (load-front k b (take a m) (drop a m) s) in
    rw (append_assoc (take a m) (little_endian n v) (drop (a + n) m), load-front k b (take a m) (little_endian n v ++ drop (a + n) m) s, e)
load-store-other n a v k b m (inr h) l =
    let p : List ℕ = take a m ++ little_endian n v in
    let s : length p ≡ a + n = simp (length-append, length-take, length_le) (omega arith) in
    let d : a + n + (b - (a + n)) ≡ b = omega arith in
    rw (← d, ← (drop-drop (b - (a + n)) (a + n) (p ++ drop (a + n) m)), drop_at p (drop (a + n) m) (a + n) s, drop-drop)

-- ---- n bytes say less than 2 ^ (8 * n)

-- each is a byte
abbrev pub Bytes : List ℕ → Type 0
Bytes s = (k : ℕ) → get_or s k 0 < 2 ^ 8

pub all-bytes : (s : List ℕ) → AllBelow (2 ^ 8) s → Bytes s
all-bytes s h k = below_get (2 ^ 8) s k (omega arith) h

pub of_lt : (n : ℕ) (s : List ℕ) → Bytes s → of_little_endian (take n s) < 2 ^ (8 * n)
unfolding of_little_endian
of_lt zero s h = omega arith
of_lt (suc n) [] h = pow_pos (8 * suc n)
of_lt (suc n) (v ∷ s) h =
    let e : 8 * suc n ≡ 8 + 8 * n = omega arith in
    rw (e, pow-add 2 8 (8 * n)) (omega (arith, of_lt n s (λ k. h (suc k)), h 0))

pub loaded_lt : (n a : ℕ) (m : List ℕ) → Bytes m → load n a m < 2 ^ (8 * n)
unfolding load
loaded_lt n a m h = of_lt n (drop a m) (λ k. rw get_or-drop (h (a + k)))

pub load_lt : (n a : ℕ) (m : List ℕ) → AllBelow (2 ^ 8) m → load n a m < 2 ^ (8 * n)
load_lt n a m h = loaded_lt n a m (all-bytes m h)

-- ---- bytes stay bytes

le_below : (n v : ℕ) → AllBelow (2 ^ 8) (little_endian n v)
unfolding little_endian
le_below zero v = tt
le_below (suc n) v = (omega arith, le_below n (v / 256))

pub store_below : (n a v : ℕ) (m : List ℕ) → AllBelow (2 ^ 8) m → AllBelow (2 ^ 8) (store n a v m)
unfolding store
store_below n a v m h =
    below_append (2 ^ 8) (take a m ++ little_endian n v) (drop (a + n) m)
    (below_append (2 ^ 8) (take a m) (little_endian n v) (below_take (2 ^ 8) a m h) (le_below n v))
    (below_drop (2 ^ 8) (a + n) m h)
