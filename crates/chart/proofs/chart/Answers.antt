-- `chart::chart` meets its contract: the index is bits 6 to 2 times 8, and funct3, and the chart's rule is one test that antt computes at its 256 entries.
use mathlib.Core.Path.{◌≡◌}
use mathlib.Core.List.{List}
use Prim.Native.Nat.{ℕ, ◌+◌, ◌*◌, ◌%◌, ◌^◌}
use native.Mathlib.Omega.{arith}
use lib.Dec.{T}
use lib.ListN.{get_or}
use Rattle.word.proofs.Scatter.{cut, ored, last, gather}
use Rattle.word.proofs.Sweep.{every, ruled, entry}
use Rattle.chart.specs.Chart.{class_of}
use Rattle.chart.proofs.chart.Goals as goal

-- the test at all 256 entries is the rule at each
rule : (entries : List ℕ) → T (every (ruled 8 256 class_of entries) 8 0) → (a b : ℕ)
    → get_or entries (a % 2 ^ 5 * 8 + b % 2 ^ 3) 0 ≡ class_of (a % 2 ^ 5) (b % 2 ^ 3)
rule entries t a b = entry 8 256 8 class_of entries t (a % 2 ^ 5) (b % 2 ^ 3) (omega arith) (omega arith) (omega arith)

-- five low bits and three, joined
index : (a b : ℕ) → ored (cut a 5 3) (last b 3) ≡ a % 2 ^ 5 * 8 + b % 2 ^ 3
index a b = gather a 5 3 (last b 3) tt

pub returns : goal.returns
unfolding class_of
returns c = rw (index, rule)
