-- Weights that are within their limits.
use Rattle.std.specs.Prelude.{ℕ, List, Option, Some, None, if◌then◌else◌}
use Rattle.weight_exact.specs.Limits.{is_weight, are_weights}

-- a number that is a weight
abbrev pub as_weight : ℕ → Option ℕ
as_weight w = if is_weight w then Some w else None

-- numbers that are the weights of a search
abbrev pub as_weights : List ℕ → Option (List ℕ)
as_weights ws = if are_weights ws then Some ws else None
