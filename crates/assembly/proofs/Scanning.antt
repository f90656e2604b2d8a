-- Reading by one shape. What is read is spelled, and what is spelled is read; where reading is stuck, the bytes before begin a line of the shape, and no longer beginning does.
use mathlib.Core.Path.{◌≡◌, refl, ap, sym, ◌∙◌, subst}
use mathlib.Core.List.{List, [], ◌∷◌, ◌++◌, append-nil, append_assoc}
use mathlib.Core.Bool.{Bool, true, false, cond, ◌&&◌, not}
use Prim.Native.Nat.{ℕ, suc, ◌+◌, ◌≤◌}
use native.Mathlib.Omega.{arith}
use native.Mathlib.Nat.{add-zero, add_assoc}
use lib.Dec.{T, eqb, ltb}
use lib.ListN.{length, take, drop, length-append, take-append-drop}
use lib.Seq.{length-take-le, take-append_seam, drop-append_seam}
use borrow.Author.Tests.{eqb-true, ltb-true, ltb-false, lt-ltb, eq-eqb}
use Rattle.word.proofs.Bools.{and_left, and_right}
use Rattle.assembly.specs.Lines.{Piece, byte, field, is_digit, digits_only, minus, is_number, Word, word, Spelled, end, same, number}
use Rattle.assembly.specs.Scanner.{Scan, at, stuck, run, numeral, over, scan}
use Rattle.assembly.proofs.Runs.{number-front, number_exact, read_number}

-- ---- shapes in which no digit follows a number

abbrev pub opens : List Piece → Bool
opens [] = false
opens (byte b ∷ s) = not (is_digit b)
opens (field f ∷ s) = false

abbrev pub follows : List Piece → Bool
follows [] = true
follows (byte b ∷ s) = follows s
follows (field f ∷ s) = opens s && follows s

opens_run : {s : List Piece} {n : ℕ} {ws : List Word} {l : List ℕ} → Spelled s n ws l → T (opens s) → (t : List ℕ) → run (l ++ t) ≡ 0
unfolding run
opens_run end h t = absurd h
opens_run (same {b = b} {l = l} r) h t = go (is_digit b) h
  where
    go : (d : Bool) → T (not d) → cond d (suc (run (l ++ t))) 0 ≡ 0
    go true h = absurd h
    go false h = refl
opens_run (number a g r) h t = absurd h

-- ---- stuck stays

pub stays : (s : List Piece) (n : ℕ) → scan s (stuck n) ≡ stuck n
unfolding scan
stays [] n = refl
stays (p ∷ s) n = stays s n

abbrev pub place_of : Scan → ℕ
place_of (at n l ws) = n
place_of (stuck n) = n

over_up : (p : Piece) (n : ℕ) (l : List ℕ) (ws : List Word) → n ≤ place_of (over p n l ws)
over_up (byte b) n [] ws = omega arith
over_up (byte b) n (x ∷ l) ws = go (eqb x b)
  where
    go : (t : Bool) → n ≤ place_of (cond t (at (suc n) l ws) (stuck n))
    go true = omega arith
    go false = omega arith
over_up (field f) n l ws = go (ltb (minus f l) (numeral f l))
  where
    go : (t : Bool) → n ≤ place_of (cond t (at (n + numeral f l) (drop (numeral f l) l) (ws ++ (word f n (take (numeral f l) l) ∷ []))) (stuck (n + numeral f l)))
    go true = omega arith
    go false = omega arith

pub up : (s : List Piece) (r : Scan) → place_of r ≤ place_of (scan s r)
unfolding scan
up [] r = omega arith
up (p ∷ s) (at n l ws) = omega (arith, over_up p n l ws, up s (over p n l ws))
up (p ∷ s) (stuck n) = up s (stuck n)

-- ---- what is spelled is read

field-read : (f n : ℕ) (a t : List ℕ) (ws : List Word) → T (is_number f a) → run t ≡ 0 → over (field f) n (a ++ t) ws ≡ at (n + length a) t (ws ++ (word f n a ∷ []))
field-read f n a t ws h e =
    let q = number_exact f a t h e in
    rw (q.0, lt-ltb _ _ q.1, take-append_seam a t, drop-append_seam a t)

pub complete : {s : List Piece} {n : ℕ} {new : List Word} {l : List ℕ} → Spelled s n new l → T (follows s) → (t : List ℕ) (ws : List Word)
    → scan s (at n (l ++ t) ws) ≡ at (n + length l) t (ws ++ new)
unfolding scan
complete {n = n} end h t ws = rw (add-zero n, append-nil ws)
complete {n = n} (same {b = b} {s = s} {ws = new} {l = l} r) h t ws =
    let e : suc n + length l ≡ n + suc (length l) = omega arith in
    rw (eq-eqb b b refl, complete r h t ws, e)
complete {n = n} (number {f = f} {s = s} {ws = new} {l = l} a g r) h t ws =
    rw (append_assoc a l t, field-read f n a (l ++ t) ws g (opens_run r (and_left (opens s) _ h) t), complete r (and_right (opens s) _ h) t (ws ++ (word f n a ∷ [])), length-append a l, append_assoc ws (word f n a ∷ []) new, add_assoc n (length a) (length l))

-- ---- the beginning of what is spelled is read

-- two ways to cut a text: the first piece of the one is within that of the other, or reaches beyond it
data Cut (a b w r : List ℕ) : Type 0 where
  within : (w' : List ℕ) → w ≡ a ++ w' → Cut a b w r
  beyond : (c : ℕ) (a' : List ℕ) → a ≡ w ++ (c ∷ a') → r ≡ (c ∷ a') ++ b → Cut a b w r

cut : (a b w r : List ℕ) → w ++ r ≡ a ++ b → Cut a b w r
cut [] b w r e = within w refl
cut (x ∷ a) b [] r e = beyond x a refl e
cut (x ∷ a) b (y ∷ w) r e = go (cut a b w r (cc))
  where
    head : y ≡ x
    head = cc

    go : Cut a b w r → Cut (x ∷ a) b (y ∷ w) r
    go (within w' q) = within w' (rw (head, q))
    go (beyond c a' q s) = beyond c a' (rw (head, q)) s

over-field : (f n : ℕ) (l : List ℕ) (ws : List Word) → place_of (over (field f) n l ws) ≡ n + numeral f l
over-field f n l ws = go (ltb (minus f l) (numeral f l))
  where
    go : (t : Bool) → place_of (cond t (at (n + numeral f l) (drop (numeral f l) l) (ws ++ (word f n (take (numeral f l) l) ∷ []))) (stuck (n + numeral f l))) ≡ n + numeral f l
    go true = refl
    go false = refl

-- a first byte that is no digit
run-first : (c : ℕ) (x y : List ℕ) → run (c ∷ x) ≡ 0 → run (c ∷ y) ≡ 0
unfolding run
run-first c x y = go (is_digit c)
  where
    go : (d : Bool) → cond d (suc (run x)) 0 ≡ 0 → cond d (suc (run y)) 0 ≡ 0
    go true e = absurd (omega arith)
    go false e = refl

pub reaches : {s : List Piece} {n : ℕ} {new : List Word} {l : List ℕ} → Spelled s n new l → T (follows s) → (a b t : List ℕ) (ws : List Word) → l ≡ a ++ b
    → n + length a ≤ place_of (scan s (at n (a ++ t) ws))
unfolding scan
reaches {n = n} end h a b t ws e = go a e
  where
    go : (a : List ℕ) → [] ≡ a ++ b → n + length a ≤ n
    go [] e = omega arith
    go (x ∷ a) e =
        let z : ◌≡◌ {A = ℕ} 0 1 = cc in
        absurd (omega arith)
reaches {n = n} (same {b = c} {s = s} {l = l} r) h a b t ws e = go (λ a q. reaches r h a b t ws q) a e
  where
    go : ((a : List ℕ) → l ≡ a ++ b → suc n + length a ≤ place_of (scan s (at (suc n) (a ++ t) ws))) → (a : List ℕ) → c ∷ l ≡ a ++ b
        → n + length a ≤ place_of (scan s (over (byte c) n (a ++ t) ws))
    go ih [] e = omega (arith, over_up (byte c) n t ws, up s (over (byte c) n t ws))
    go ih (x ∷ a) e =
        let head : x ≡ c = cc in
        let tail : l ≡ a ++ b = cc in
        rw (eq-eqb x c head) (omega (arith, ih a tail))
reaches {n = n} (number {f = f} {s = s} {ws = new} {l = l} w g r) h a b t ws e =
    go (cut a b w l e) (λ a' b' q. reaches r (and_right (opens s) _ h) a' b' t (ws ++ (word f n w ∷ [])) q)
  where
    go : Cut a b w l → ((a' b' : List ℕ) → l ≡ a' ++ b' → n + length w + length a' ≤ place_of (scan s (at (n + length w) (a' ++ t) (ws ++ (word f n w ∷ [])))))
        → n + length a ≤ place_of (scan s (over (field f) n (a ++ t) ws))
    go (within w' q) ih =
        omega (arith, over-field f n (a ++ t) ws, number-front f a w' t (subst (λ (w : List ℕ). T (is_number f w)) q g), up s (over (field f) n (a ++ t) ws))
    go (beyond c a' q u) ih =
        let stop : run (c ∷ (a' ++ t)) ≡ 0 = run-first c (a' ++ b ++ []) (a' ++ t) (subst (λ (l : List ℕ). run (l ++ []) ≡ 0) u (opens_run r (and_left (opens s) _ h) [])) in
        rw (q, append_assoc w (c ∷ a') t, field-read f n w (c ∷ (a' ++ t)) ws g stop, length-append w (c ∷ a')) (omega (arith, ih (c ∷ a') b u))

-- ---- what is read is spelled

-- every shape has a line
record Some (s : List Piece) (n : ℕ) : Type 0 where
  numbers : List Word
  text : List ℕ
  line : Spelled s n numbers text

zero_bare : (f : ℕ) → T (is_number f (48 ∷ []))
zero_bare f = go (eqb f 4)
  where
    go : (t : Bool) → T (digits_only (drop (cond (t && false) 1 0) (48 ∷ [])) && ltb (cond (t && false) 1 0) 1)
    go true = tt
    go false = tt

-- .. and so has one whose minus was read
zero-after : (f : ℕ) (l : List ℕ) → T (is_number f (take (minus f l) l ++ (48 ∷ []))) × (minus f l ≤ length l)
zero-after f [] = go (eqb f 4)
  where
    go : (t : Bool) → T (is_number f (take (cond (t && false) 1 0) [] ++ (48 ∷ []))) × (cond (t && false) 1 0 ≤ 0)
    go true = (zero_bare f, omega arith)
    go false = (zero_bare f, omega arith)
zero-after f (x ∷ l) = go (eqb f 4 && eqb x 45) refl
  where
    go : (t : Bool) → (eqb f 4 && eqb x 45) ≡ t → T (is_number f (take (cond t 1 0) (x ∷ l) ++ (48 ∷ []))) × (cond t 1 0 ≤ suc (length l))
    go true e = (rw e tt, omega arith)
    go false e = (zero_bare f, omega arith)

some : (s : List Piece) (n : ℕ) → Some s n
some [] n = record { numbers = []; text = []; line = end }
some (byte b ∷ s) n =
    let more = some s (suc n) in
    record { numbers = more.numbers; text = b ∷ more.text; line = same more.line }
some (field f ∷ s) n =
    let more = some s (n + 1) in
    record { numbers = word f n (48 ∷ []) ∷ more.numbers; text = (48 ∷ []) ++ more.text; line = number (48 ∷ []) (zero_bare f) more.line }

pub record Went (s : List Piece) (n : ℕ) (l : List ℕ) (ws : List Word) (m : ℕ) (r : List ℕ) (ws' : List Word) : Type 0 where
  pub front : List ℕ
  pub new : List Word
  pub split : l ≡ front ++ r
  pub place : m ≡ n + length front
  pub more : ws' ≡ ws ++ new
  pub line : Spelled s n new front

pub record Stopped (s : List Piece) (n : ℕ) (l : List ℕ) (m : ℕ) : Type 0 where
  pub front : List ℕ
  pub back : List ℕ
  pub rest : List ℕ
  pub numbers : List Word
  pub split : l ≡ front ++ back
  pub place : m ≡ n + length front
  pub line : Spelled s n numbers (front ++ rest)

abbrev pub Outcome : List Piece → ℕ → List ℕ → List Word → Scan → Type 0
Outcome s n l ws (at m r ws') = Went s n l ws m r ws'
Outcome s n l ws (stuck m) = Stopped s n l m

-- over a byte
after-byte : (s : List Piece) (n : ℕ) (l : List ℕ) (ws : List Word) (b : ℕ) (r : Scan) → Outcome s (suc n) l ws r → Outcome (byte b ∷ s) n (b ∷ l) ws r
after-byte s n l ws b (at m r ws') o =
    record {
      front = b ∷ o.front;
      new = o.new;
      split = ap (λ (l : List ℕ). b ∷ l) o.split;
      place = omega (arith, o.place);
      more = o.more;
      line = same o.line;
    }
after-byte s n l ws b (stuck m) o =
    record {
      front = b ∷ o.front;
      back = o.back;
      rest = o.rest;
      numbers = o.numbers;
      split = ap (λ (l : List ℕ). b ∷ l) o.split;
      place = omega (arith, o.place);
      line = same o.line;
    }

-- over a number
after-number : (s : List Piece) (n : ℕ) (l : List ℕ) (ws : List Word) (f : ℕ) (a : List ℕ) → T (is_number f a) → (r : Scan)
    → Outcome s (n + length a) l (ws ++ (word f n a ∷ [])) r → Outcome (field f ∷ s) n (a ++ l) ws r
after-number s n l ws f a g (at m r ws') o =
    record {
      front = a ++ o.front;
      new = word f n a ∷ o.new;
      split = ap (λ (l : List ℕ). a ++ l) o.split ∙ sym (append_assoc a o.front r);
      place = rw (length-append a o.front) (omega (arith, o.place));
      more = o.more ∙ append_assoc ws (word f n a ∷ []) o.new;
      line = number a g o.line;
    }
after-number s n l ws f a g (stuck m) o =
    record {
      front = a ++ o.front;
      back = o.back;
      rest = o.rest;
      numbers = word f n a ∷ o.numbers;
      split = ap (λ (l : List ℕ). a ++ l) o.split ∙ sym (append_assoc a o.front o.back);
      place = rw (length-append a o.front) (omega (arith, o.place));
      line = rw (append_assoc a o.front o.rest) (number a g o.line);
    }

-- stuck at once
at_once : (s : List Piece) (n : ℕ) (l : List ℕ) → Stopped s n l n
at_once s n l =
    let more = some s n in
    record { front = []; back = l; rest = more.text; numbers = more.numbers; split = refl; place = omega arith; line = more.line }

-- .. after a minus
at-minus : (f : ℕ) (s : List Piece) (n : ℕ) (l : List ℕ) → Stopped (field f ∷ s) n l (n + minus f l)
at-minus f s n l =
    let z = zero-after f l in
    let a : List ℕ = take (minus f l) l in
    let more = some s (n + length (a ++ (48 ∷ []))) in
    record {
      front = a;
      back = drop (minus f l) l;
      rest = 48 ∷ more.text;
      numbers = word f n (a ++ (48 ∷ [])) ∷ more.numbers;
      split = sym (take-append-drop (minus f l) l);
      place = rw (length-take-le (minus f l) l z.1);
      line = subst (λ (t : List ℕ). Spelled (field f ∷ s) n (word f n (a ++ (48 ∷ [])) ∷ more.numbers) t) (append_assoc a (48 ∷ []) more.text) (number (a ++ (48 ∷ [])) z.0 more.line);
    }

pub outcome : (s : List Piece) (n : ℕ) (l : List ℕ) (ws : List Word) → Outcome s n l ws (scan s (at n l ws))
unfolding scan
outcome [] n l ws = record { front = []; new = []; split = refl; place = omega arith; more = sym (append-nil ws); line = end }
outcome (byte b ∷ s) n [] ws = rw (stays s n) (at_once (byte b ∷ s) n [])
outcome (byte b ∷ s) n (x ∷ l) ws = go (outcome s (suc n) l ws) (eqb x b) refl
  where
    go : Outcome s (suc n) l ws (scan s (at (suc n) l ws)) → (t : Bool) → eqb x b ≡ t → Outcome (byte b ∷ s) n (x ∷ l) ws (scan s (cond t (at (suc n) l ws) (stuck n)))
    go o true e = rw (eqb-true x b e) (after-byte s n l ws b (scan s (at (suc n) l ws)) o)
    go o false e = rw (stays s n) (at_once (byte b ∷ s) n (x ∷ l))
outcome (field f ∷ s) n l ws = go (λ m l ws. outcome s m l ws) (ltb (minus f l) (numeral f l)) refl
  where
    k : ℕ
    k = numeral f l

    w : List Word
    w = ws ++ (word f n (take k l) ∷ [])

    go : ((m : ℕ) (l : List ℕ) (ws : List Word) → Outcome s m l ws (scan s (at m l ws))) → (t : Bool) → ltb (minus f l) k ≡ t
        → Outcome (field f ∷ s) n l ws (scan s (cond t (at (n + k) (drop k l) w) (stuck (n + k))))
    go ih true e =
        let q = read_number f l (ltb-true (minus f l) k e) in
        let o = after-number s n (drop k l) ws f (take k l) q.0 (scan s (at (n + length (take k l)) (drop k l) w)) (ih (n + length (take k l)) (drop k l) w) in
        rw (take-append-drop k l, length-take-le k l q.1) at o
    go ih false e =
        let m : k ≡ minus f l = omega (arith, ltb-false (minus f l) k e) in
        rw (stays s (n + k), m) (at-minus f s n l)
