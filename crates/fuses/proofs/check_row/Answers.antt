-- `fuses::check_row` meets its contract: its two tests are those of `row_checked`.
use Rattle.std.proofs.Common.{◌≡◌, refl, ℕ, Bool, true, false, cond, Option, Some, None, Err}
use borrow.Author.Tests.{eq-eqb}
use Rattle.answers.specs.Checks.{Check, passed}
use Rattle.answers.specs.declared.Refusal.TheVariants.{RowRecord}
use Rattle.fuses.proofs.check_row.Goals as goal

one_breaks : (keep : Bool) (lowest word : ℕ) → Some word ≡ cond keep None (Some lowest) → ◌≡◌ {A = Check} (Err (RowRecord word)) (cond keep passed (Err (RowRecord lowest)))
one_breaks true lowest word e = cc
one_breaks false lowest word e = cc

none_breaks : (keep : Bool) (lowest : ℕ) → ◌≡◌ {A = Option ℕ} None (cond keep None (Some lowest)) → passed ≡ cond keep passed (Err (RowRecord lowest))
none_breaks true lowest e = refl
none_breaks false lowest e = cc

pub returns-in-Some-lowest_bad : goal.returns-in-Some-lowest_bad
returns-in-Some-lowest_bad c =
    let row = c.in-Some.ensures.cases in
    rw (eq-eqb _ 512 row.long, ← row.same) (one_breaks _ _ _ c.in-Some-lowest_bad.ensures)

pub returns-in-None : goal.returns-in-None
returns-in-None c =
    let row = c.in-Some.ensures.cases in
    rw (eq-eqb _ 512 row.long, ← row.same) (none_breaks _ _ c.in-None.ensures)
