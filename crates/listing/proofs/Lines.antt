-- A line shows one byte or more, all within the image, and is at most 38 bytes long: an instruction fetched is in range, so its text fits.
use mathlib.Core.Path.{◌≡◌, refl}
use mathlib.Core.Bool.{Bool, true, false, cond}
use mathlib.Core.List.{List, ◌++◌}
use Prim.Native.Nat.{ℕ, ◌+◌, ◌*◌, ◌≤◌, ◌<◌}
use native.Mathlib.Omega.{arith}
use lib.ListN.{length, length-append}
use lib.Dec.{eqb, leb}
use borrow.Author.Tests.{leb-true, le-leb, lt-leb, eqb-true}
use Rattle.ascii.specs.Ascii.{bytes}
use Rattle.ascii.specs.Numbers.{hex}
use Rattle.ascii.proofs.Numbers.{hex-length}
use Rattle.isa.specs.declared.Inst.{Inst}
use Rattle.word.proofs.Bools.{either}
use Rattle.octets.proofs.Bytes.{Bytes}
use Rattle.fetch.specs.Fetching.{fetched}
use Rattle.fetch.proofs.Laws.{fetched_real}
use Rattle.text.proofs.Lengths.{text_fits, short_text_bound}
use Rattle.listing.specs.declared.Shown.{Shown}
use Rattle.listing.specs.declared.Shown.TheVariants.{Long, Short, Unknown, Odd}
use Rattle.listing.specs.Listing.{shown_of, shown_at, size_of, shown_text, Lines, lines, line_of, line_at}
use Rattle.fetch.specs.Fetching.{Fetched}
use Rattle.std.specs.Prelude.{Err, Ok}

-- ---- what a line shows

module _ (image : List ℕ) (a : ℕ) where
  -- what holds of each thing that can be shown
  shown-is : (P : Shown → Type 0) → P Odd → (a + 2 ≤ length image → P Unknown)
      → ((i : Inst) (len : ℕ) → a + 2 ≤ length image → fetched a image ≡ Ok (i, len) → (len ≡ 4 → P (Long i)) × P (Short i))
      → P (shown_at image a)
  unfolding shown_at shown_of
  shown-is P odd unknown known = two (leb (a + 2) (length image)) refl
    where
      by_size : (i : Inst) (len : ℕ) → (len ≡ 4 → P (Long i)) × P (Short i) → (t : Bool) → eqb len 4 ≡ t → P (cond t (Long i) (Short i))
      by_size i len k true e = k.0 (eqb-true len 4 e)
      by_size i len k false e = k.1

      go : a + 2 ≤ length image → (r : Fetched) → fetched a image ≡ r → P (shown_of r)
      go h (Ok (i, len)) e = by_size i len (known i len h e) (eqb len 4) refl
      go h (Err stop) e = unknown h

      two : (t : Bool) → leb (a + 2) (length image) ≡ t → P (cond t (shown_of (fetched a image)) Odd)
      two true e = go (leb-true _ _ e) (fetched a image) refl
      two false e = odd

  shown_size : 1 ≤ size_of (shown_at image a)
  shown_size = shown-is (λ s. 1 ≤ size_of s) (omega arith) (λ h. omega arith) (λ i len h e. (λ k. omega arith, omega arith))

  -- it lies within the image
  pub shown-within : Bytes image → a < length image → a + size_of (shown_at image a) ≤ length image
  shown-within l k =
      shown-is (λ s. a + size_of s ≤ length image) (omega arith) (λ h. omega arith)
      (λ i len h e. (λ q. let r = fetched_real a image l e in omega arith, omega arith))

  pub shown-fits : Bytes image → 2 * size_of (shown_at image a) + length (shown_text (shown_at image a)) ≤ 27
  shown-fits l =
      shown-is (λ s. 2 * size_of s + length (shown_text s) ≤ 27) (omega arith) (λ h. omega arith)
      (λ i len h e. let r = (fetched_real a image l e).in_range_lem in (λ k. omega (arith, text_fits i r), omega (arith, short_text_bound i r)))

-- ---- lines

pub front_length : (a digits bits : ℕ) → length (hex 8 a ++ bytes " " ++ hex digits bits ++ bytes " ") ≡ digits + 10
front_length a digits bits = simp length-append (omega (arith, hex-length 8 a, hex-length digits bits))

module _ (image : List ℕ) (a : ℕ) where
  line-length : (s : Shown) → length (line_of image a s) ≡ 2 * size_of s + length (shown_text s) + 11
  unfolding line_of
  line-length s = rw (length-append _ (bytes "\n"), length-append _ (shown_text s), front_length) (omega arith)

  -- the longest line
  pub line-fits : Bytes image → length (line_at image a).text ≤ 38
  unfolding line_at
  line-fits l =
      either (λ (s : Lines). length s.text ≤ 38) (leb (length image) 65536) _ _ (rw line-length (omega (arith, shown-fits image a l))) (omega arith)

  -- a line moves on
  pub line_moves : a < length image → a < (line_at image a).next
  unfolding line_at
  line_moves h = either (λ (s : Lines). a < s.next) (leb (length image) 65536) _ _ (omega (arith, shown_size image a)) h

  -- by the image's length
  pub line-none : 65536 < length image → line_at image a ≡ lines (bytes "too long\n") (length image)
  unfolding line_at
  line-none h = rw (lt-leb _ _ h)

  pub line_some : length image ≤ 65536 → line_at image a ≡ lines (line_of image a (shown_at image a)) (a + size_of (shown_at image a))
  unfolding line_at
  line_some h = rw (le-leb _ _ h)
