-- Laws of a chain of tests: what follows where it passed, and how its answer is carried on when more tests follow.
use mathlib.Core.Path.{◌≡◌, refl}
use mathlib.Core.Bool.{Bool, true, false}
use Rattle.answers.specs.Checks.{unless, Check, passed}
use Rattle.answers.specs.declared.Refusal.{Refusal}
use Rattle.std.specs.Prelude.{Err}

-- a chain that passed: the first test holds, and the others passed
pub both_passed : (b : Bool) (r : Refusal) (rest : Check) → unless b r rest ≡ passed → (b ≡ true) × (rest ≡ passed)
both_passed true r rest e = (refl, e)
both_passed false r rest e = (cc, cc)

-- a chain that is refused, or that passed, where what follows the test is carried on from c to d
pub refused_on : (b : Bool) (p : Refusal) {c d : Check} {r : Refusal} → (c ≡ Err r → d ≡ Err r) → unless b p c ≡ Err r → unless b p d ≡ Err r
refused_on true p f e = f e
refused_on false p f e = e

pub passed_on : (b : Bool) (p : Refusal) {c d q : Check} → (c ≡ passed → d ≡ q) → unless b p c ≡ passed → unless b p d ≡ q
passed_on true p f e = f e
passed_on false p f e = cc
