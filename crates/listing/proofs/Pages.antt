-- Pages: page after page gives the listing, a page moves on where it has room for a line, and a page fits its room.
use mathlib.Core.Path.{◌≡◌, refl, sym, ap, ◌∙◌}
use mathlib.Core.Bool.{and-false}
use mathlib.Core.Logic.{◌⊎◌, inl, inr, ⊎_elim}
use mathlib.Core.List.{List, [], ◌++◌, append_assoc}
use Prim.Native.Nat.{ℕ, zero, suc, ◌-◌, ◌≤◌, ◌<◌}
use native.Mathlib.Omega.{arith}
use lib.ListN.{length, length-append}
use lib.Dec.{ltb}
use borrow.Author.Tests.{lt-ltb, le-ltb, le-leb, lt-leb}
use Rattle.answers.specs.Outcomes.{outcome}
use Rattle.word.proofs.Bools.{below}
use Rattle.listing.specs.declared.Listed.{Listed}
use Rattle.listing.specs.Listing.{Lines, lines, line_at, lines_from, before, page_from, page_of, list_entry}
use Rattle.octets.proofs.Bytes.{Bytes}
use Rattle.listing.proofs.Lines.{line-fits, line_moves}

module _ (image : List ℕ) where
  -- ---- the lines, with one more than enough

  pub lines_end : (n a : ℕ) → length image ≤ a → lines_from n image a ≡ []
  unfolding lines_from
  lines_end zero a h = refl
  lines_end (suc n) a h = rw (le-ltb a (length image) h)

  pub lines_on : (n a : ℕ) → a < length image → lines_from (suc n) image a ≡ (line_at image a).text ++ lines_from n image (line_at image a).next
  unfolding lines_from
  lines_on n a h = rw (lt-ltb a (length image) h)

  lines_more : (n a : ℕ) → length image - a ≤ n → lines_from (suc n) image a ≡ lines_from n image a
  lines_more zero a h = let k : length image ≤ a = omega arith in lines_end 1 a k ∙ sym (lines_end 0 a k)
  lines_more (suc n) a h =
      ⊎_elim
      (λ k. rw (lines_on (suc n) a k, lines_on n a k, lines_more n (line_at image a).next (omega (arith, line_moves image a k))))
      (λ k. lines_end (suc (suc n)) a k ∙ sym (lines_end (suc n) a k))
      (below a (length image))

  -- ---- a page: nothing, or the next line and what follows

  pub page_end : (n left a : ℕ) → (length image ≤ a) ⊎ (left < 38) → page_from n image left a ≡ lines [] a
  unfolding page_from
  page_end zero left a h = refl
  page_end (suc n) left a (inl h) = rw (le-ltb a (length image) h)
  page_end (suc n) left a (inr h) = rw (lt-leb 38 left h, and-false (ltb a (length image)))

  -- the page after the line at a
  abbrev pub following : ℕ → ℕ → ℕ → Lines
  following n left a = page_from n image (left - length (line_at image a).text) (line_at image a).next

  pub page_on : (n left a : ℕ) → a < length image → 38 ≤ left → page_from (suc n) image left a ≡ before (line_at image a) (following n left a)
  unfolding page_from
  page_on n left a h k = rw (lt-ltb a (length image) h, le-leb 38 left k)

  page_is : (P : Lines → Type 0) (n left a : ℕ) → P (lines [] a) → (a < length image → 38 ≤ left → P (before (line_at image a) (following n left a)))
      → P (page_from (suc n) image left a)
  page_is P n left a e f =
      ⊎_elim (λ h. ⊎_elim (λ k. rw (page_end (suc n) left a (inr k)) e) (λ k. rw (page_on n left a h k) (f h k)) (below left 38))
      (λ h. rw (page_end (suc n) left a (inl h)) e)
      (below a (length image))

  -- ---- page after page

  page_above : (n left a : ℕ) → a ≤ (page_from n image left a).next
  unfolding page_from
  page_above zero left a = omega arith
  page_above (suc n) left a =
      page_is (λ (p : Lines). a ≤ p.next) n left a (omega arith)
      (λ h k. omega (arith, line_moves image a h, page_above n (left - length (line_at image a).text) (line_at image a).next))

  page_rest : (m n left a : ℕ) → length image - a ≤ n → lines_from n image a ≡ (page_from m image left a).text ++ lines_from n image (page_from m image left a).next
  unfolding page_from
  page_rest zero n left a h = refl
  page_rest (suc m) zero left a h = rw (page_end (suc m) left a (inl (omega arith)))
  page_rest (suc m) (suc n) left a h =
      page_is (λ (p : Lines). lines_from (suc n) image a ≡ p.text ++ lines_from (suc n) image p.next) m left a refl
      (λ k l.
      let t = line_at image a in
      let p = following m left a in
      let x = line_moves image a k in
      rw (lines_on n a k, lines_more n p.next (omega (arith, page_above m (left - length t.text) t.next)), append_assoc t.text p.text (lines_from n image p.next))
      (ap (λ (s : List ℕ). t.text ++ s) (page_rest m n (left - length t.text) t.next (omega arith))))

  -- the lines from a on are a page's and those from where the page ends
  pub page_then_rest : (left a n : ℕ) → length image - a ≤ n → lines_from n image a ≡ (page_of image left a).text ++ lines_from n image (page_of image left a).next
  page_then_rest left a n h = page_rest (length image) n left a h

  -- a page with room for a line moves on
  pub page_moves : (left a : ℕ) → a < length image → 38 ≤ left → a < (page_of image left a).next
  page_moves left a h k = go (length image) h
    where
      go : (n : ℕ) → a < n → a < (page_from n image left a).next
      go zero g = absurd (omega arith)
      go (suc n) g = rw (page_on n left a h k) (omega (arith, line_moves image a h, page_above n (left - length (line_at image a).text) (line_at image a).next))

  module _ (l : Bytes image) where
    from_fits : (n left a : ℕ) → length (page_from n image left a).text ≤ left
    unfolding page_from
    from_fits zero left a = omega arith
    from_fits (suc n) left a =
        page_is (λ (p : Lines). length p.text ≤ left) n left a (omega arith)
        (λ h k. rw length-append (omega (arith, line-fits image a l, from_fits n (left - length (line_at image a).text) (line_at image a).next)))

    -- a page of bytes fits its room
    pub page_fits : (left a : ℕ) → length (page_of image left a).text ≤ left
    page_fits left a = from_fits (length image) left a

-- ---- what `list` answers

module _ (image : List ℕ) (a : ℕ) (room : List ℕ) {room' : List ℕ} {r : Listed} (e : outcome r room' ≡ list_entry image a room) where
  -- within the room
  pub listed_fits : length room' ≡ length room → r.length ≤ length room
  listed_fits h = omega (arith, ap (λ p. p.answer.length) e, simp length-append at (ap (λ p. length p.lent) e))

  -- and further on, where there is room for a line
  pub listed_moves : a < length image → 38 ≤ length room → a < r.next
  listed_moves h k = rw (ap (λ p. p.answer.next) e) (page_moves image (length room) a h k)
