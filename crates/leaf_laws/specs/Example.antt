-- A small search, for worked numbers.
use Rattle.std.specs.Prelude.{ℕ, List, [], ◌∷◌}
use Rattle.weight_exact.specs.Factors.{factors}
use Rattle.weight_exact.specs.Weights.{Setup, setup}

-- four suspects and "no culprit", all of weight 1, a flake rate of 1/10, no misses and a bar of 9/10
abbrev pub four_suspects : Setup
four_suspects = setup (1 ∷ 1 ∷ 1 ∷ 1 ∷ []) 1 (factors 1 10 0 1) 9 10

-- its hypotheses
abbrev pub all_five : List ℕ
all_five = 1 ∷ 2 ∷ 3 ∷ 4 ∷ 5 ∷ []
