-- An equation to one value, and the fields of equal records.
use mathlib.Core.Path.{sym, ap, ◌∙◌}
use Rattle.promises.specs.Equations.{OneOutcome, EqualParts}

pub one_outcome : OneOutcome
one_outcome A meant o p e f = e ∙ sym f

pub equal_parts : EqualParts
equal_parts = (
  λ A B a c b d e. (ap (λ o. o.answer) e, ap (λ o. o.lent) e),
  λ A B a c b d e. (ap (λ o. o.0) e, ap (λ o. o.1) e),
  λ m n f g e. (ap (λ o. o.mem) e, ap (λ o. o.row) e),
  λ k l s t b c e. (ap (λ o. o.st) e, ap (λ o. o.board) e, ap (λ o. o.grant) e),
  λ k l b c m n e. (ap (λ o. o.board) e, ap (λ o. o.slots) e, ap (λ o. o.grant) e),
  λ p q x y c d s t a b e. (ap (λ o. o.pc) e, ap (λ o. o.x) e, ap (λ o. o.count) e, ap (λ o. o.stop) e, ap (λ o. o.address) e),
)
