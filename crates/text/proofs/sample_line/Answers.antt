-- The table is the 48 sample lines, which antt computes.
use mathlib.Core.Path.{refl}
use native.Mathlib.Omega.{arith}
use Rattle.ascii.specs.Numbers.{decimal, decimal_by, signed_decimal}
use Rattle.isa.specs.Building.{built}
use Rattle.text.specs.Names.{names, name_at}
use Rattle.text.specs.Text.{operands_of, text_of}
use Rattle.text.specs.Samples.{sample_line}
use Rattle.text.proofs.Samples.{now_at, rule}
use Rattle.text.proofs.sample_line.Goals as goal

pub returns : goal.returns
unfolding decimal decimal_by signed_decimal names name_at operands_of text_of built sample_line
returns c = rw now_at (rule _ c.args.operation _ (omega arith) refl)
