use Rattle.std.proofs.Common.{◌≡◌, ◌+◌, ◌-◌, ◌*◌, ◌<◌, ◌≤◌, ℕ, get_or}
use Rattle.weight_exact.proofs.sums.spread.Given as goal

-- the numbers up to this index are changed, and the others as before
abbrev pub invariant-loop-index : goal.invariant-loop-index
invariant-loop-index l = record {
  above : (k : ℕ) → l.fn.start ≤ k → k < l.index → get_or l.numbers k 0 ≡ l.base + (get_or l.fn.numbers k 0 - l.below) * l.factor;
  before : (k : ℕ) → k < l.fn.start → get_or l.numbers k 0 ≡ get_or l.fn.numbers k 0;
  after : (k : ℕ) → l.index ≤ k → get_or l.numbers k 0 ≡ get_or l.fn.numbers k 0;
}
