-- The 48 sample lines, which antt computes: the table has them, and each begins with its name.
use Rattle.std.proofs.Common.{Bor, map, slice_index_or, ◌+◌, add-one, drop, drop-cons, drop_of_length-le}
use Rattle.std.proofs.Math.ListN.{get_or-map}
use Rattle.std.proofs.lemmas.List.FromFn.{get_or-map-range_with_len}
use mathlib.Core.Path.{◌≡◌, refl, ap, sym, ◌∙◌}
use Rattle.std.specs.List.{range_with_len}
use mathlib.Core.List.{List, [], ◌∷◌}
use Prim.Native.Nat.{ℕ, ◌≤◌, ◌<◌}
use native.Mathlib.Omega.{arith}
use borrow.Author.Tests.{le-leb, lt-leb}
use lib.ListN.{length, get_or, get_or-eq_default}
use Rattle.ascii.specs.declared.Cursor.{Cursor}
use Rattle.ascii.specs.Rooms.{HasRoom, Appended}
use Rattle.ascii.proofs.Rooms.{in_turn, room_before, room_after, put_nothing}
use Rattle.ascii.specs.Ascii.{bytes}
use Rattle.ascii.specs.Numbers.{decimal, decimal_by, signed_decimal}
use Rattle.isa.specs.Building.{built}
use Rattle.text.specs.Names.{names, name_at}
use Rattle.text.specs.Text.{operands_of, text_of}
use Rattle.text.specs.Samples.{sample_line, name_of}

-- ---- the table

-- what f gives for each operation
abbrev of_each : (ℕ → List ℕ) → List (List ℕ)
of_each f = map f (range_with_len 0 48)

each_at : (f : ℕ → List ℕ) (o : ℕ) (default : List ℕ) → o < 48 → get_or (of_each f) o default ≡ f o
each_at f o default h = get_or-map-range_with_len f 0 48 o o default h (omega arith)

-- a table of references holds what they refer to
pub now_at : (table : List (Bor (List ℕ))) (o : ℕ) (default : Bor (List ℕ)) → (slice_index_or table o default).now ≡ slice_index_or (map (λ line. line.now) table) o default.now
now_at table o default = sym (get_or-map (λ line. line.now) table o default)

pub rule : (table : List (List ℕ)) (o : ℕ) (default : List ℕ) → o < 48 → table ≡ of_each sample_line → slice_index_or table o default ≡ sample_line o
rule table o default h e = ap (λ (t : List (List ℕ)). get_or t o default) e ∙ each_at sample_line o default h

-- ---- names

-- no operation has a number above 47
pub no_name : (o : ℕ) → 48 ≤ o → name_at o ≡ []
unfolding names name_at
no_name o h = ap bytes (get_or-eq_default names "" h)

named : of_each (λ o. name_of (sample_line o)) ≡ of_each name_at
unfolding decimal decimal_by signed_decimal names name_at operands_of text_of built sample_line name_of
named = refl

pub name_first : (o : ℕ) → o < 48 → name_of (sample_line o) ≡ name_at o
name_first o h =
    sym (each_at (λ o. name_of (sample_line o)) o [] h) ∙ ap (λ (t : List (List ℕ)). get_or t o []) named ∙ each_at name_at o [] h

-- ---- a name, put byte by byte

-- from a byte of the line on, the name goes on behind it, or there is none
module _ (line : List ℕ) (i : ℕ) where
  ahead : i < length line → drop i line ≡ get_or line i 0 ∷ drop (i + 1) line
  ahead h = rw (add-one i) (drop-cons line i 0 h)

  goes-on : i < length line → 32 < get_or line i 0 → name_of (drop i line) ≡ get_or line i 0 ∷ name_of (drop (i + 1) line)
  unfolding name_of
  goes-on h b = rw (ahead h, lt-leb (get_or line i 0) 32 b)

  pub stops-here : i < length line → get_or line i 0 ≤ 32 → name_of (drop i line) ≡ []
  unfolding name_of
  stops-here h b = rw (ahead h, le-leb (get_or line i 0) 32 b)

  pub stops-at_end : length line ≤ i → name_of (drop i line) ≡ []
  unfolding name_of
  stops-at_end h = rw (drop_of_length-le line h)

-- the name's bytes before i were put: the others have room, and complete it
pub record Putting (line : List ℕ) (before : Cursor) (i : ℕ) (out : Cursor) : Type 0 where
  pub fits : HasRoom out (name_of (drop i line))
  pub others : (end : Cursor) → Appended out (name_of (drop i line)) end → Appended before (name_of line) end

pub nothing-put : (line : List ℕ) (before : Cursor) → HasRoom before (name_of line) → Putting line before 0 before
nothing-put line before h = record { fits = h; others = λ end a. a }

module _ (line : List ℕ) (before : Cursor) (i : ℕ) (out : Cursor) (p : Putting line before i out) where
  pub room-here : i < length line → 32 < get_or line i 0 → HasRoom out (get_or line i 0 ∷ [])
  room-here h b = room_before out (get_or line i 0 ∷ []) (name_of (drop (i + 1) line)) (rw (goes-on line i h b) at p.fits)

  pub one-put : {next : Cursor} → i < length line → 32 < get_or line i 0 → Appended out (get_or line i 0 ∷ []) next → Putting line before (i + 1) next
  one-put {next} h b a = record {
    fits = room_after (name_of (drop (i + 1) line)) a (rw (goes-on line i h b) at p.fits);
    others = λ end more. p.others end (rw (goes-on line i h b) (in_turn a more));
  }

  pub all-put : name_of (drop i line) ≡ [] → Appended before (name_of line) out
  all-put e = p.others out (rw e (put_nothing out))
