use Rattle.std.proofs.Common.{◌≡◌, ◌+◌, ◌-◌, ◌<◌, ◌≤◌, ℕ, length}
use Rattle.weight_exact.specs.Cumulative.{AreSumsOf}
use Rattle.weight_exact.specs.Weights.{sum_to}
use Rattle.posterior.specs.Middle.{last_of}
use Rattle.posterior.proofs.middle.at_bar.Given as goal

-- the middle of the whole lies in the span, whose sums are those up to its two ends
abbrev pub invariant-loop-span : goal.invariant-loop-span
invariant-loop-span g l = record {
  floor : l.floor ≤ l.span.low;
  some : l.span.low < l.span.high;
  last : l.span.high ≤ length l.sums;
  down : l.span.before ≤ l.middle;
  up : l.middle < l.span.upto;
  part : l.span.upto ≤ last_of l.sums;
  sums : (w : ℕ → ℕ) → AreSumsOf w l.sums → (l.span.before ≡ sum_to w l.span.low) × (l.span.upto ≡ sum_to w l.span.high);
  cost : l.steps + (l.span.high - l.span.low) ≤ l.fn.steps + 1 + (length l.sums - l.floor);
  rises : l.fn.steps ≤ l.steps;
}

abbrev pub decreases-loop-span : goal.decreases-loop-span
decreases-loop-span g l = l.span.high - l.span.low
