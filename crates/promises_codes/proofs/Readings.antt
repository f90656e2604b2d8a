-- From an answer in the paper's terms back to the code's.
use mathlib.Core.Path.{◌≡◌, refl, sym, ap}
use Prim.Native.Nat.{ℕ}
use native.Mathlib.Omega.{arith}
use Rattle.answers.specs.Answer.{given, refused_with}
use Rattle.answers.proofs.Order.{apart, same_number, same-value}
use Rattle.isa.specs.declared.Inst.{Inst}
use Rattle.isa.specs.Answers.{of_built, of_decoded, of_encoded, of_shortened}
use Rattle.isa.specs.declared.Unshortened.TheVariants as U
use Rattle.isa.specs.declared.Unshortened.{Unshortened}
use Rattle.std.specs.Prelude.{Err, None, Ok, Option, Result, Some}

pub legal-is : (d : Option Inst) (i : Inst) → of_decoded d ≡ given i → d ≡ Some i
legal-is (Some j) i e = ap Some (same-value e)
legal-is None i e = absurd (apart (sym e))

pub bits_is : (d : Option ℕ) (w : ℕ) → of_encoded d ≡ given w → d ≡ Some w
bits_is (Some v) w e = ap Some (same-value e)
bits_is None w e = absurd (apart (sym e))

pub out_is : (d : Option ℕ) (n : ℕ) → of_encoded d ≡ refused_with n → d ≡ None
out_is (Some v) n e = absurd (apart e)
out_is None n e = refl

pub half_is : (s : Result ℕ Unshortened) (h : ℕ) → of_shortened s ≡ given h → s ≡ Ok h
half_is (Ok k) h e = ap Ok (same-value e)
half_is (Err U.OutOfRange) h e = absurd (apart (sym e))
half_is (Err U.NoShortForm) h e = absurd (apart (sym e))

pub eight_is : (s : Result ℕ Unshortened) → of_shortened s ≡ refused_with 8 → s ≡ Err U.OutOfRange
eight_is (Ok k) e = absurd (apart e)
eight_is (Err U.OutOfRange) e = refl
eight_is (Err U.NoShortForm) e = let z : ◌≡◌ {A = ℕ} 9 8 = same_number e in absurd (omega arith)

pub nine_is : (s : Result ℕ Unshortened) → of_shortened s ≡ refused_with 9 → s ≡ Err U.NoShortForm
nine_is (Ok k) e = absurd (apart e)
nine_is (Err U.OutOfRange) e = let z : ◌≡◌ {A = ℕ} 8 9 = same_number e in absurd (omega arith)
nine_is (Err U.NoShortForm) e = refl

-- what is no instruction is refused with 7
pub seven : (d : Option Inst) → ((i : Inst) → of_decoded d ≡ given i → ⊥) → of_decoded d ≡ refused_with 7
seven (Some i) f = absurd (f i refl)
seven None f = refl

-- .. and what no instruction has, with 8
pub eight : (b : Option Inst) → ((i : Inst) → of_built b ≡ given i → ⊥) → of_built b ≡ refused_with 8
eight (Some i) f = absurd (f i refl)
eight None f = refl
