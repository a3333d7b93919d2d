-- Counts by position.
use Rattle.std.specs.Prelude.{◌≡◌, ℕ, ◌≤◌, List, length}
use Rattle.weight_exact.specs.Weights.{sum_to}
use Rattle.posterior.specs.Kept.{at}

-- nothing is counted at the positions up to a floor
abbrev pub AreCleared : ℕ → List ℕ → Type 0
AreCleared floor counts = (p : ℕ) → 1 ≤ p → p ≤ floor → at counts p ≡ 0

-- how many are counted at the positions up to p
abbrev pub counted_to : List ℕ → ℕ → ℕ
counted_to counts p = sum_to (at counts) p

-- how many are counted at all positions
abbrev pub counted : List ℕ → ℕ
counted counts = counted_to counts (length counts)
