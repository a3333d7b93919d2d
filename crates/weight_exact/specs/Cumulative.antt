-- Cumulative sums as a list, and what they become where the weights are multiplied.
use Rattle.std.specs.Prelude.{◌≡◌, ℕ, ◌+◌, ◌-◌, ◌*◌, ◌<◌, ◌≤◌, List, length, slice_index, nat_le, if◌then◌else◌}
use Rattle.weight_exact.specs.Weights.{sum_to}

-- the i-th number of a list is the weight of hypotheses 1 to i
abbrev pub AreSumsOf : (ℕ → ℕ) → List ℕ → Type 0
AreSumsOf w sums = (i : ℕ) → 1 ≤ i → i ≤ length sums → slice_index sums (i - 1) ≡ sum_to w i

-- no number is less than an earlier one
abbrev pub AreRising : List ℕ → Type 0
AreRising sums = (i j : ℕ) → i ≤ j → j < length sums → slice_index sums i ≤ slice_index sums j

-- weights of which those up to a position are multiplied by one number, and the others by another
abbrev pub reweighed : (ℕ → ℕ) → (position inside outside : ℕ) → ℕ → ℕ
reweighed w position inside outside i = w i * (if nat_le i position then inside else outside)

-- the sum of all such weights, by the sums before
abbrev pub reweighed_total : List ℕ → (position inside outside : ℕ) → ℕ
reweighed_total sums position inside outside =
    let below = slice_index sums (position - 1) in
    below * inside + (slice_index sums (length sums - 1) - below) * outside
