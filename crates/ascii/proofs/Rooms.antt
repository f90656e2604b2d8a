-- One writer after another is one writer, and what was written from 0 on stands at the front of the room.
use mathlib.Core.Path.{◌≡◌, refl, sym, ap, ◌∙◌}
use mathlib.Core.List.{List, [], ◌∷◌, ◌++◌, append_assoc}
use Prim.Native.Nat.{ℕ, suc, ◌+◌, ◌≤◌}
use native.Mathlib.Nat.{add-zero, zero-add, add-suc, suc-add, add_assoc}
use native.Mathlib.Omega.{arith}
use lib.ListN.{length, take, drop, set, length-append, length-set}
use lib.Seq.{sets, sets-eq}
use borrow.Rule.Slice.PartMut.{put_mid}
use Rattle.std.proofs.lemmas.Slice.{put_mid-paste}
use Rattle.std.proofs.lemmas.List.Edits.{paste_all}
use Rattle.ascii.specs.declared.Cursor.{Cursor}
use Rattle.ascii.specs.Rooms.{Wrote, fronted, HasRoom, Appended}

sets_append : (a b room : List ℕ) (at : ℕ) → sets room at (a ++ b) ≡ sets (sets room at a) (at + length a) b
sets_append [] b room at = ap (λ (k : ℕ). sets room k b) (sym (add-zero at))
sets_append (x ∷ a) b room at =
    sets_append a b (set room at x) (suc at) ∙ ap (λ (k : ℕ). sets (sets (set room at x) (suc at) a) k b) (suc-add at (length a) ∙ sym (add-suc at (length a)))

-- a text copied over as many bytes
pub copied : (text room : List ℕ) (at k : ℕ) {part : List ℕ} → part ≡ text → k ≡ length text → at + length text ≤ length room
    → Wrote room at text (put_mid at k room part) (at + length text)
copied text room at k {part} e f h =
    record {
      room =
          put_mid-paste at k room part text k e refl f
          ∙ paste_all room at text k f
          ∙ ap (λ (n : ℕ). take at room ++ (text ++ drop (at + n) room)) f
          ∙ sym (append_assoc (take at room) text (drop (at + length text) room))
          ∙ sym (sets-eq text room at h);
      next = refl;
    }

-- two writers in a row
pub then : {r₀ : List ℕ} {at : ℕ} {a r₁ : List ℕ} {m : ℕ} {b r₂ : List ℕ} {n : ℕ} → Wrote r₀ at a r₁ m → Wrote r₁ m b r₂ n → Wrote r₀ at (a ++ b) r₂ n
then {r₀} {at} {a} {r₁} {m} {b} {r₂} {n} v w =
    record {
      room = w.room ∙ ap (λ (l : List ℕ). sets l m b) v.room ∙ ap (λ (k : ℕ). sets (sets r₀ at a) k b) v.next ∙ sym (sets_append a b r₀ at);
      next = w.next ∙ ap (λ (k : ℕ). k + length b) v.next ∙ add_assoc at (length a) (length b) ∙ ap (λ (k : ℕ). at + k) (sym (length-append a b));
    }

-- a writer of nothing
pub nothing : (room : List ℕ) (at : ℕ) → Wrote room at [] room at
nothing room at = record { room = refl; next = sym (add-zero at) }

-- what was written from 0 on
pub at_front : {r₀ text r₁ : List ℕ} {n : ℕ} → Wrote r₀ 0 text r₁ n → length text ≤ length r₀ → (r₁ ≡ fronted text r₀) × (n ≡ length text)
at_front {r₀} {text} {r₁} {n} w h = (
  w.room ∙ sets-eq text r₀ 0 (rw zero-add h) ∙ ap (λ (k : ℕ). text ++ drop k r₀) (zero-add (length text)),
  w.next ∙ zero-add (length text),
)

-- a room keeps its length
pub length_kept : {before : List ℕ} {at : ℕ} {text after : List ℕ} {end : ℕ} → Wrote before at text after end → length after ≡ length before
length_kept {before} {at} {text} w = ap length w.room ∙ kept text before at
  where
    kept : (text room : List ℕ) (at : ℕ) → length (sets room at text) ≡ length room
    kept [] room at = refl
    kept (x ∷ text) room at = kept text (set room at x) (suc at) ∙ length-set room at x

-- ---- by a cursor

-- two writers in a row
pub in_turn : {c d e : Cursor} {a b : List ℕ} → Appended c a d → Appended d b e → Appended c (a ++ b) e
in_turn v w = record { same_room = w.same_room ∙ v.same_room; wrote = then v.wrote w.wrote }

-- a cursor moves on by the text, and its room keeps its length
pub moved : {c d : Cursor} {a : List ℕ} → Appended c a d → (d.at ≡ c.at + length a) × (length d.room.now ≡ length c.room.now)
moved v = (v.wrote.next, length_kept v.wrote)

-- what has room has room for its front
pub room_before : (c : Cursor) (a b : List ℕ) → HasRoom c (a ++ b) → HasRoom c a
room_before c a b h = omega (arith, length-append a b)

-- what is left of the room takes the rest
pub room_after : {c d : Cursor} {a : List ℕ} (b : List ℕ) → Appended c a d → HasRoom c (a ++ b) → HasRoom d b
room_after {c} {d} {a} b v h = omega (arith, v.wrote.next, length_kept v.wrote, length-append a b)

-- a writer of nothing
pub put_nothing : (c : Cursor) → Appended c [] c
put_nothing c = record { same_room = refl; wrote = nothing c.room.now c.at }
