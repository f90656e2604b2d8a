-- Over one piece, by the byte of a sample that stands for it.
use Rattle.std.proofs.Common.{◌≡◌, Some, None, ℕ, ◌+◌, Bool, cond, List, ap, sym, ◌∙◌, subst}
use Rattle.assembly.specs.Lines.{Piece, piece_of}
use Rattle.numerals.specs.declared.Field.{Field}
use Rattle.numerals.specs.Numbers.{digit_of, field_in, Fielded}
use Rattle.numerals.proofs.Laws.{fielded}
use Rattle.reader.specs.declared.Fields.{Fields}
use Rattle.reader.specs.Reading.{Read, At, Stuck, starts_with, over_field, over_piece}

module _ (k p n : ℕ) (l : List ℕ) (x : Fields) where
  pub over-number : (f : Field) → Some f ≡ field_in p → (r : Read) → r ≡ over_field k (digit_of f) l n x → r ≡ over_piece k (piece_of p) l n x
  unfolding over_piece
  over-number f e r q = q ∙ sym (ap (λ (p : Piece). over_piece k p l n x) (subst (Fielded p) (sym e) (fielded p)))

  pub over-byte : None ≡ field_in p → (t : Bool) → starts_with p l ≡ t → cond t (At (n + 1) x) (Stuck n) ≡ over_piece k (piece_of p) l n x
  unfolding over_piece
  over-byte e t q = ap (λ (t : Bool). cond t (At (n + 1) x) (Stuck n)) (sym q) ∙ sym (ap (λ (p : Piece). over_piece k p l n x) (subst (Fielded p) (sym e) (fielded p)))
