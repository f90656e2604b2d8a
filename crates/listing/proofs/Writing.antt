-- How a page is written, line by line: what is written so far and the page that follows are the page.
use mathlib.Core.Path.{◌≡◌, ap, ◌∙◌}
use mathlib.Core.Logic.{◌⊎◌, inl, inr, ⊎_elim}
use mathlib.Core.List.{List, [], ◌++◌, append_assoc, append-nil}
use Prim.Native.Nat.{ℕ, zero, suc, ◌+◌, ◌-◌, ◌≤◌, ◌<◌}
use native.Mathlib.Omega.{arith}
use lib.ListN.{length, length-append}
use Rattle.answers.specs.Outcomes.{outcome}
use Rattle.ascii.specs.Rooms.{Wrote}
use Rattle.ascii.proofs.Rooms.{then, nothing, at_front}
use Rattle.listing.specs.Listing.{lines, line_at, before, page_from, page_of, list_entry}
use Rattle.octets.proofs.Bytes.{Bytes}
use Rattle.listing.proofs.Lines.{line-fits, line_moves}
use Rattle.listing.proofs.Pages.{page_end, page_on, following}

-- so far a text, and at most `more` lines follow
pub record Written (image : List ℕ) (from : ℕ) (room₀ room : List ℕ) (end next : ℕ) : Type 0 where
  pub text : List ℕ
  pub more : ℕ
  pub enough : length image - next ≤ more
  pub wrote : Wrote room₀ 0 text room end
  pub fits : length text ≤ length room₀
  pub rest : page_of image (length room₀) from ≡ before (lines text next) (page_from more image (length room₀ - length text) next)

module _ (image : List ℕ) (from : ℕ) (room₀ : List ℕ) where
  pub begins : Written image from room₀ room₀ 0 from
  begins =
      let e : length room₀ - 0 ≡ length room₀ = omega arith in
      record { text = []; more = length image; enough = omega arith; wrote = nothing room₀ 0; fits = omega arith; rest = rw e }

  pub goes_on : {room room' : List ℕ} {end end' next : ℕ} → Bytes image → next < length image → end + 38 ≤ length room₀
      → Wrote room end (line_at image next).text room' end' → Written image from room₀ room end next → Written image from room₀ room' end' (line_at image next).next
  goes_on {room' = room'} {end' = end'} {next = a} l h k v w = go w.more w.enough w.rest
    where
      go : (n : ℕ) → length image - a ≤ n → page_of image (length room₀) from ≡ before (lines w.text a) (page_from n image (length room₀ - length w.text) a)
          → Written image from room₀ room' end' (line_at image a).next
      go zero e r = absurd (omega arith)
      go (suc n) e r =
          let f : length w.text + 38 ≤ length room₀ = omega (arith, w.wrote.next) in
          let d : length room₀ - length (w.text ++ (line_at image a).text) ≡ length room₀ - length w.text - length (line_at image a).text = rw length-append (omega arith) in
          record {
            text = w.text ++ (line_at image a).text;
            more = n;
            enough = omega (arith, line_moves image a h);
            wrote = then w.wrote v;
            fits = rw length-append (omega (arith, line-fits image a l));
            rest =
                rw (d, append_assoc w.text (line_at image a).text (following image n (length room₀ - length w.text) a).text)
                (r ∙ ap (before (lines w.text a)) (page_on image n (length room₀ - length w.text) a h (omega arith)));
          }

  pub ends : {room last : List ℕ} {end next : ℕ} → last ≡ room → (length image ≤ next) ⊎ (length room₀ < end + 38) → Written image from room₀ room end next
      → outcome (record { length = end; next = next }) last ≡ list_entry image from room₀
  ends {next = a} e h w =
      let f = at_front w.wrote w.fits in
      let g : (length image ≤ a) ⊎ (length room₀ - length w.text < 38) = ⊎_elim (λ k. inl k) (λ k. inr (omega (arith, f.1))) h in
      rw (e, w.rest, page_end image w.more (length room₀ - length w.text) a g, append-nil w.text, f.0, f.1)
