-- The definition's case of a divisor 0, and what it computes at -2 ^ 31 and -1.
use mathlib.Core.Path.{refl}
use Rattle.promises.specs.Divisions.{ByZero, LowestByMinusOne}

pub by_zero : ByZero
by_zero a = (refl, refl, refl, refl)

pub lowest_by_minus_one : LowestByMinusOne
lowest_by_minus_one = (refl, refl)
