-- Lists of numbers that fit.
use Rattle.std.specs.Prelude.{ℕ, ◌<◌, List, [], ◌∷◌}

-- every number of the list is below b
abbrev pub AllBelow : ℕ → List ℕ → Type 0
AllBelow b [] = Unit {0}
AllBelow b (v ∷ vs) = (v < b) × AllBelow b vs
