-- Cumulative sums as a list: one for each hypothesis, first the suspects 1 to n, and last "no culprit".
use Rattle.std.specs.Prelude.{ℕ, ◌+◌, ◌-◌, ◌<◌, List, length, slice_index}

-- the sum of hypotheses 1 to i
abbrev pub sum_at : List ℕ → ℕ → ℕ
sum_at sums i = slice_index sums (i - 1)

-- the sum of all hypotheses
abbrev pub whole : List ℕ → ℕ
whole sums = sum_at sums (length sums)

-- the number of suspects, n
abbrev pub suspects_in : List ℕ → ℕ
suspects_in sums = length sums - 1

-- above the floor each sum is less than the next, up to the whole: each hypothesis there has a weight
abbrev pub RiseAbove : ℕ → List ℕ → Type 0
RiseAbove floor sums = (i : ℕ) → floor < i → i < length sums → sum_at sums i < sum_at sums (i + 1)
