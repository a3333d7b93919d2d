-- The limits of a search, within which exact inference fits 128 bits.
use Rattle.std.specs.Prelude.{ℕ, ◌≤◌, Bool, ◌&&◌, nat_le, List, length, All}
use Rattle.std.specs.List.{list_all}
use Rattle.weight_exact.specs.declared.limits.TheConstants.{MAX_CALM, MAX_SUSPECTS, MAX_WEIGHT}

-- a prior weight that a suspect may have, and a calm weight that "no culprit" may have
abbrev pub IsWeight : ℕ → Type 0
IsWeight weight = (1 ≤ weight) × (weight ≤ MAX_WEIGHT)

abbrev pub IsCalm : ℕ → Type 0
IsCalm calm = (1 ≤ calm) × (calm ≤ MAX_CALM)

-- the prior weights of a search, and its calm weight
pub record ArePriors (weights : List ℕ) (calm : ℕ) : Type 0 where
  pub some : 1 ≤ length weights
  pub few : length weights ≤ MAX_SUSPECTS
  pub each : All IsWeight weights
  pub some_calm : 1 ≤ calm
  pub little_calm : calm ≤ MAX_CALM

-- the same as tests: whether a number lies from 1 to a limit
abbrev pub is_within : (limit : ℕ) → ℕ → Bool
is_within limit n = nat_le 1 n && nat_le n limit

abbrev pub is_weight : ℕ → Bool
is_weight weight = is_within MAX_WEIGHT weight

abbrev pub is_calm : ℕ → Bool
is_calm calm = is_within MAX_CALM calm

abbrev pub are_weights : List ℕ → Bool
are_weights weights = is_within MAX_SUSPECTS (length weights) && list_all is_weight weights
