use Rattle.std.proofs.Common.{ℕ, ◌-◌, ◌*◌, ◌^◌, ◌<◌, ◌≤◌, max}
use Rattle.threshold_pick.specs.Sums.{sum_at, suspects_in}
use Rattle.threshold_pick.proofs.picks.first_reaching.Given as goal

-- The turn lies from low to high, and each step halves what lies between
abbrev pub invariant-loop-low : goal.invariant-loop-low
invariant-loop-low g l = record {
  above : l.floor < l.low;
  order : l.low ≤ l.high;
  within : l.high ≤ suspects_in l.sums;
  before : (i : ℕ) → l.floor < i → i < l.low → sum_at l.sums i * l.threshold.parts < l.threshold.mark;
  from : (i : ℕ) → l.high ≤ i → i < suspects_in l.sums → l.threshold.mark ≤ sum_at l.sums i * l.threshold.parts;
  counted : l.fn.steps ≤ l.steps;
  cost : 2 ^ (l.steps - l.fn.steps) * max 1 (2 * (l.high - l.low)) ≤ 2 * suspects_in l.sums;
}

abbrev pub decreases-loop-low : goal.decreases-loop-low
decreases-loop-low g l = l.high - l.low
