use Rattle.std.proofs.Common.{◌≡◌, ◌≤◌, ◌<◌, ◌-◌, ℕ, true, length, get_or}
use Rattle.farm_drill.proofs.keys.Keys.take.Given as goal

abbrev pub invariant-loop-self : goal.invariant-loop-self
invariant-loop-self l = record {
  same : l.self.used.items ≡ l.fn.self.used.items;
  past : l.fn.self.next ≤ l.self.next;
  used : (number : ℕ) → l.fn.self.next ≤ number → number < l.self.next → number < length l.fn.self.used.items
      → get_or l.fn.self.used.items number true ≡ true;
}

abbrev pub decreases-loop-self : goal.decreases-loop-self
decreases-loop-self l = length l.self.used.items - l.self.next
