-- Where to run next, by cumulative sums.
use Rattle.std.specs.Prelude.{◌≡◌, ℕ, ◌-◌, ◌≤◌, List, Option, length, slice_index}
use Rattle.std.specs.List.{filter_map, range_with_len}
use Rattle.threshold_pick.specs.Open.{is_open, nearest_open}
use Rattle.weight_exact.specs.Plan.{distance, IsNearest}
use Rattle.threshold_pick.specs.Sums.{sum_at, whole, suspects_in}

-- how far the sum at position i is from j parts in k + 1 of the whole, times k + 1
abbrev pub away : List ℕ → (j k : ℕ) → ℕ → ℕ
away sums j k i = distance (whole sums) j k (sum_at sums i)

-- i is the j-th of k positions to run next: of the suspects above the floor the one whose sum is nearest to j parts in
-- k + 1 of the whole, and the smaller one on a tie
abbrev pub IsPick : List ℕ → (floor j k : ℕ) → ℕ → Type 0
IsPick sums floor j k i = IsNearest (away sums j k) floor (suspects_in sums) i

-- a list is the k positions to run next, in order
pub record ArePicks (sums : List ℕ) (floor k : ℕ) (positions : List ℕ) : Type 0 where
  pub width : length positions ≡ k
  pub each : (j : ℕ) → 1 ≤ j → j ≤ k → IsPick sums floor j k (slice_index positions (j - 1))

-- the j-th of k positions to run next of those above the floor that weren't skipped, where one is left: as `IsPick`
-- says of it, and nothing where each was skipped
abbrev pub open_pick_in : (sums : List ℕ) → (floor : ℕ) → (skipped : List ℕ) → (j k : ℕ) → Option ℕ
open_pick_in sums floor skipped j k = nearest_open (is_open skipped) (away sums j k) floor (suspects_in sums - floor)

-- all k of them, in order: none where each position was skipped
abbrev pub open_plan_in : (sums : List ℕ) → (floor : ℕ) → (skipped : List ℕ) → (k : ℕ) → List ℕ
open_plan_in sums floor skipped k = filter_map (λ j. open_pick_in sums floor skipped j k) (range_with_len 1 k)
