use Rattle.std.proofs.Common.{◌≡◌, ◌+◌, drop}
use Rattle.numerals.specs.Numbers.{digits_on, digits_at}
use Rattle.numerals.proofs.read_digits.Given as goal

abbrev pub invariant-loop-b : goal.invariant-loop-b
invariant-loop-b l = (l.end ≡ l.from + l.b-index) × (digits_on l.end l.value (drop l.end l.text) ≡ digits_at l.from (drop l.from l.text))
