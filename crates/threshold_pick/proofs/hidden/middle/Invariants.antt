use Rattle.std.proofs.Common.{ℕ, ◌+◌, ◌-◌, ◌<◌, ◌≤◌}
use Rattle.threshold_pick.specs.Sums.{sum_at, suspects_in}
use Rattle.threshold_pick.proofs.hidden.middle.Given as goal

-- The middle lies from low to high
abbrev pub invariant-loop-low : goal.invariant-loop-low
invariant-loop-low g l = record {
  first : 1 ≤ l.low;
  order : l.low ≤ l.high;
  within : l.high ≤ suspects_in l.sums + 1;
  before : (i : ℕ) → 1 ≤ i → i < l.low → sum_at l.sums i < l.half;
  from : (i : ℕ) → l.high ≤ i → i ≤ suspects_in l.sums → l.half ≤ sum_at l.sums i;
}

abbrev pub decreases-loop-low : goal.decreases-loop-low
decreases-loop-low g l = l.high - l.low
