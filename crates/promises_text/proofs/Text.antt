-- The promises of text and listing: each entry answers by its chain of tests, and the lengths, the distinct texts and the pages are the laws of their crates.
use mathlib.Core.Path.{◌≡◌, refl, sym, ap, ◌∙◌}
use mathlib.Core.List.{List, [], ◌∷◌, ◌++◌, append_assoc, append-nil}
use Prim.Native.Nat.{ℕ, suc, ◌-◌, ◌^◌}
use native.Mathlib.Omega.{arith}
use lib.ListN.{length, drop, length-append, length-drop}
use lib.Seq.{drop_at}
use Rattle.answers.specs.declared.Refusal.TheVariants as R
use Rattle.answers.proofs.Order.{iff_same, no_rows, then_row}
use Rattle.answers.proofs.Entries.{exactly, keeps_lent}
use Rattle.isa.specs.Registers.{reg}
use Rattle.isa.specs.Decoding.{decoded}
use Rattle.isa.specs.Rvc.{expanded}
use Rattle.isa.specs.Encoding.{in_range}
use Rattle.text.specs.Text.{text_of, short_text_of, operands_of}
use Rattle.text.specs.Names.{names, name_at}
use Rattle.text.proofs.Lengths as Lengths
use Rattle.text.proofs.ShortLengths.{short_longest}
use Rattle.text.proofs.Distinct as Distinct
use Rattle.disassembler.proofs.Outcomes.{fills, room_says, legal_says}
use Rattle.ascii.specs.Numbers.{hex, signed_decimal, decimal, decimal_by}
use Rattle.ascii.proofs.Numbers.{decimal_least}
use Rattle.octets.specs.Bytes.{of_little_endian, load}
use Rattle.octets.proofs.Bytes.{all-bytes}
use Rattle.fetch.specs.Fetching.{fetched, fetched_with}
use Rattle.listing.specs.Listing.{shown_of, shown_at, line_of, line_at, lines_from, listing, page_of}
use Rattle.listing.proofs.Lines.{line-none}
use Rattle.listing.proofs.Pages as Pages
use Rattle.promises_codes.proofs.Readings.{legal-is}
use Rattle.promises_text.specs.Text.{WordTextRefuses, HalfTextRefuses, TextRefuses, TextKeeps, WordText, HalfText, InstText, longest_text, TextFits, longest_short_text, ShortTextFits, TextDetermines, ShortIsNotLong, pages, PagesAreListing, PageMoves, PageFits, EmptyListing, LongListing, OddListing, PaperListing, PageKeeps, WroteDetermined, AppendedDetermined}
use Rattle.answers.specs.Answer.{of_result}
use Rattle.answers.specs.Checks.{passed}
use Rattle.std.specs.Prelude.{Err}

-- ---- refusals

pub word_text_refuses : WordTextRefuses
word_text_refuses w room = exactly of_result Err (λ r. refl) _ _ room refl (room_says _ room (legal_says (decoded w)))

pub half_text_refuses : HalfTextRefuses
half_text_refuses h room = exactly of_result Err (λ r. refl) _ _ room refl (room_says _ room (legal_says (expanded h)))

pub text_refuses : TextRefuses
text_refuses i room = exactly of_result Err (λ r. refl) _ _ room refl (room_says _ room (then_row (in_range i) R.Field passed iff_same no_rows))

pub text_keeps : TextKeeps
text_keeps room = (
  λ w. keeps_lent of_result Err (λ r. refl) _ _ room refl,
  λ h. keeps_lent of_result Err (λ r. refl) _ _ room refl,
  λ i. keeps_lent of_result Err (λ r. refl) _ _ room refl,
)

-- ---- the text

pub word_text : WordText
word_text w i room h e = rw (legal-is (decoded w) i e, fills room h (text_of i)) (refl, refl)

pub half_text : HalfText
unfolding short_text_of
half_text h i room l e = rw (legal-is (expanded h) i e, fills room l (short_text_of i)) (refl, refl)

pub inst_text_lem : InstText
inst_text_lem i room h e = rw (e, fills room h (text_of i)) (refl, refl)

-- ---- lengths and distinct texts

-- each bound is reached, as the digits of the operands add up
pub text_fits : TextFits
unfolding in_range names name_at operands_of text_of signed_decimal
text_fits = (
  Lengths.text_fits,
  refl,
  omega (arith, Lengths.text_fits longest_text refl, Lengths.two_regs (name_at 20) (reg 31) (reg 31) (signed_decimal (2 ^ 32 - 2048)), decimal_least 1 31 (omega arith), decimal_least 3 2048 (omega arith)),
)

pub short_text_fits : ShortTextFits
unfolding expanded names name_at operands_of text_of short_text_of signed_decimal
short_text_fits = (
  λ h i e. short_longest h i (legal-is (expanded h) i e),
  refl,
  omega (arith, short_longest 0x1F81 longest_short_text refl, Lengths.two_regs (name_at 18) (reg 31) (reg 31) (signed_decimal (2 ^ 32 - 32)), decimal_least 1 31 (omega arith), decimal_least 1 32 (omega arith)),
)

pub text_determines : TextDetermines
text_determines = Distinct.text_determines

pub short_is_not_long : ShortIsNotLong
short_is_not_long = Distinct.short_is_not_long

-- ---- the listing

-- what the pages have written, then the lines from where they ended, are the lines
pages-rest : (image rooms : List ℕ) (a : ℕ)
    → lines_from (length image) image a ≡ (pages image rooms a).text ++ lines_from (length image) image (pages image rooms a).next
pages-rest image [] a = refl
pages-rest image (room ∷ rooms) a =
    let p = page_of image room a in
    let rest = pages image rooms p.next in
    Pages.page_then_rest image room a (length image) (omega arith)
    ∙ ap (λ (l : List ℕ). p.text ++ l) (pages-rest image rooms p.next)
    ∙ sym (append_assoc p.text rest.text (lines_from (length image) image rest.next))

pub pages_are_listing : PagesAreListing
unfolding listing
pages_are_listing image rooms h =
    sym (pages-rest image rooms 0 ∙ ap (λ (l : List ℕ). (pages image rooms 0).text ++ l) (Pages.lines_end image (length image) _ h) ∙ append-nil _)

pub page_moves : PageMoves
page_moves = Pages.page_moves

pub page_fits : PageFits
page_fits image room a h = Pages.page_fits image (all-bytes image h) room a

pub page_keeps : PageKeeps
page_keeps image a room h =
    let text = (page_of image (length room) a).text in
    let fits = page_fits image (length room) a h in
    (drop_at text (drop (length text) room) (length text) refl, simp (length-append, length-drop) (omega arith))

pub empty_listing : EmptyListing
unfolding listing lines_from
empty_listing = refl

pub long_listing : LongListing
unfolding listing
long_listing image h =
    let e : length image ≡ suc (length image - 1) = omega arith in
    ap (λ (n : ℕ). lines_from n image 0) e
    ∙ Pages.lines_on image (length image - 1) 0 (omega arith)
    ∙ rw (line-none image 0 h, Pages.lines_end image (length image - 1) (length image) (omega arith))

pub odd_listing : OddListing
unfolding listing lines_from line_at line_of shown_at shown_of fetched fetched_with hex load of_little_endian
odd_listing = refl

pub paper_listing : PaperListing
unfolding listing lines_from line_at line_of shown_at shown_of fetched fetched_with hex load of_little_endian decoded expanded text_of short_text_of operands_of name_at names signed_decimal decimal decimal_by
paper_listing = refl

-- ---- no choice

pub wrote_determined : WroteDetermined
wrote_determined room at text r₁ r₂ m n v w = (v.room ∙ sym w.room, v.next ∙ sym w.next)

pub appended_determined : AppendedDetermined
appended_determined c text d e v w =
    let same = wrote_determined c.room.now c.at text d.room.now e.room.now d.at e.at v.wrote w.wrote in
    (v.same_room ∙ sym w.same_room, same.0, same.1)
