-- 57 of the chart's 256 entries are not 0: antt counts them.
use mathlib.Core.Path.{◌≡◌, refl}
use Rattle.chart.specs.Chart.{class_of, filled, count}

pub filled_57 : count filled 256 ≡ 57
unfolding class_of count
filled_57 = refl
