-- The short form of an instruction: the smallest halfword, as a number, that stands for it.
use Rattle.std.specs.Prelude.{ℕ, zero, suc, ◌^◌, Bool, false, cond, Err, None, Ok, Option, Result, Some}
use Rattle.isa.specs.declared.Inst.{Inst}
use Rattle.isa.specs.Operations.{parts_of, same_parts}
use Rattle.isa.specs.Encoding.{in_range}
use Rattle.isa.specs.Rvc.{expanded}
use Rattle.isa.specs.declared.Unshortened.TheVariants as U
use Rattle.isa.specs.declared.Unshortened.{Unshortened}

abbrev pub means : Option Inst → Inst → Bool
means (Some j) i = same_parts (parts_of j) (parts_of i)
means None i = false

-- the halfword h stands for i
abbrev pub stands : Inst → ℕ → Bool
stands i h = means (expanded h) i

-- the first answer, where it is a halfword, else the second
abbrev pub or_else : Result ℕ Unshortened → Result ℕ Unshortened → Result ℕ Unshortened
or_else (Ok h) s = Ok h
or_else (Err U.OutOfRange) s = s
or_else (Err U.NoShortForm) s = s

-- the smallest number below n that passes the test
unfoldable pub smallest : (ℕ → Bool) → ℕ → Result ℕ Unshortened
smallest p zero = Err U.NoShortForm
smallest p (suc n) = or_else (smallest p n) (cond (p n) (Ok n) (Err U.NoShortForm))

-- of the 65,536 halfwords
abbrev pub shortened : Inst → Result ℕ Unshortened
shortened i = cond (in_range i) (smallest (stands i) (2 ^ 16)) (Err U.OutOfRange)
