-- What an entry comes to: in a room under 24 bytes, where its test refuses, and where a text was written. A text that is found is at most 19 bytes, so it fits, and what was
-- written from 0 on stands at the front. And what the rows of its tests are.
use Prim.Native.Nat.{ℕ, ◌≤◌, ◌<◌}
use native.Mathlib.Omega.{arith}
use mathlib.Core.Path.{◌≡◌, refl, sym}
use mathlib.Core.Bool.{Bool, true, false, false≢true}
use mathlib.Core.List.{List, ◌++◌}
use lib.ListN.{length}
use lib.Dec.{leb}
use borrow.Author.Tests.{le-leb, lt-leb, leb-false}
use Rattle.answers.specs.Answer.{refused_with}
use Rattle.answers.specs.Order.{refusal, no_refusal}
use Rattle.answers.specs.Outcomes.{Outcome, outcome, decided}
use Rattle.answers.specs.declared.Refusal.{Refusal}
use Rattle.answers.specs.declared.Refusal.TheVariants as R
use Rattle.answers.proofs.Entries.{is-refused}
use Rattle.answers.proofs.Order.{apart, Says, no_rows, then_row}
use Rattle.std.specs.Option.{ok_or}
use Rattle.std.specs.Bool.{then_some}
use Rattle.ascii.specs.Ascii.{bytes}
use Rattle.ascii.specs.Rooms.{Wrote}
use Rattle.ascii.proofs.Rooms.{at_front}
use Rattle.isa.specs.declared.Inst.{Inst}
use Rattle.isa.specs.Decoding.{decoded}
use Rattle.isa.specs.Rvc.{expanded}
use Rattle.isa.specs.Encoding.{in_range}
use Rattle.isa.specs.Answers.{of_decoded}
use Rattle.roundtrip.proofs.Words.{decoded_in_range}
use Rattle.text.specs.Text.{text_of, short_text_of}
use Rattle.text.proofs.Lengths.{text_fits}
use Rattle.text.proofs.ShortLengths.{short_longest}
use Rattle.disassembler.specs.Entries.{room_checked, legal_checked, text_filled, text_entry, found_entry, found_filled}
use Rattle.answers.specs.Checks.{Check, passed}
use Rattle.std.specs.Prelude.{Err, None, Ok, Option, Result, Some, IfOk}

-- ---- a text that was found fits

pub word_fits : (bits : ℕ) (r : Refusal) → IfOk (ok_or (decoded bits) r) (λ i. length (text_of i) ≤ 19)
word_fits bits r = go (decoded bits) refl
  where
    go : (d : Option Inst) → decoded bits ≡ d → IfOk (ok_or d r) (λ i. length (text_of i) ≤ 19)
    go (Some i) e = omega (arith, text_fits i (decoded_in_range bits i e))
    go None e = tt

pub half-fits : (bits : ℕ) (r : Refusal) → IfOk (ok_or (expanded bits) r) (λ i. length (bytes "c:" ++ text_of i) ≤ 18)
unfolding short_text_of
half-fits bits r = go (expanded bits) refl
  where
    go : (d : Option Inst) → expanded bits ≡ d → IfOk (ok_or d r) (λ i. length (bytes "c:" ++ text_of i) ≤ 18)
    go (Some i) e = omega (arith, short_longest bits i e)
    go None e = tt

-- .. so it is no longer than a word's
pub no-longer : (found : Result Inst Refusal) → IfOk found (λ i. length (bytes "c:" ++ text_of i) ≤ 18) → IfOk found (λ i. length (bytes "c:" ++ text_of i) ≤ 19)
no-longer (Ok i) h = omega (arith, h)
no-longer (Err r) h = tt

pub inst_fits : (i : Inst) (r : Refusal) → IfOk (ok_or (then_some (in_range i) i) r) (λ i. length (text_of i) ≤ 19)
inst_fits i r = go (in_range i) refl
  where
    go : (t : Bool) → in_range i ≡ t → IfOk (ok_or (then_some t i) r) (λ i. length (text_of i) ≤ 19)
    go true e = omega (arith, text_fits i e)
    go false e = tt

-- ---- what an entry comes to

-- before any other test
pub no_room : (check : Check) (o : Outcome (Result ℕ Refusal) (List ℕ)) (room : List ℕ) → length room < 24
    → outcome (Err R.Room) room ≡ decided (room_checked room check) o Err room
no_room check o room h = is-refused o Err room refl (rw (lt-leb _ _ h))

-- in a room of 24 bytes
module _ (room : List ℕ) (wide : 24 ≤ length room) where
  pub text-refused : {check : Check} {r : Refusal} (o : Outcome (Result ℕ Refusal) (List ℕ)) → check ≡ Err r
      → outcome (Err r) room ≡ decided (room_checked room check) o Err room
  text-refused o e = is-refused o Err room refl (rw (le-leb _ _ wide, e))

  pub fills : (text : List ℕ) → text_entry passed text room ≡ text_filled text room
  unfolding decided
  fills text = rw (le-leb _ _ wide)

  pub text-written : {text after : List ℕ} {n : ℕ} → length text ≤ 24 → Wrote room 0 text after n → outcome (Ok n) after ≡ text_entry passed text room
  text-written {text} h w =
      let front = at_front w (omega arith) in
      rw (front.0, front.1, fills text)

-- where the text fits
pub text-put : {text after : List ℕ} {n : ℕ} (room : List ℕ) → length text ≤ length room → Wrote room 0 text after n → outcome (Ok n) after ≡ text_filled text room
text-put room h w = let front = at_front w h in rw (front.0, front.1)

-- in a room that was looked at the other tests decide
pub looked-at : (found : Result Inst Refusal) (prefix room : List ℕ) → 24 ≤ length room → found_filled found prefix room ≡ found_entry found prefix room
looked-at found prefix room wide = rw (le-leb _ _ wide)

-- the rows of the tests
pub room_says : (check : Check) (room : List ℕ) {rows : ℕ → Type 0} → Says check rows → Says (room_checked room check) (refusal 6 (length room < 24) rows)
room_says check room q = then_row (leb 24 (length room)) R.Room check (leb-false _ _, lt-leb _ _) q

pub legal_says : (d : Option Inst) → Says (legal_checked d) (refusal 7 (of_decoded d ≡ refused_with 7) no_refusal)
legal_says (Some i) = then_row true R.NoInstruction passed (λ e. absurd (false≢true (sym e)), λ e. absurd (apart e)) no_rows
legal_says None = then_row false R.NoInstruction passed (λ e. refl, λ e. refl) no_rows
