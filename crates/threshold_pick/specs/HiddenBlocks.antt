-- Hypotheses that no run can tell apart any more, since each position between them was skipped.
use Rattle.std.specs.Prelude.{◌≡◌, ℕ, zero, suc, ◌+◌, ◌*◌, ◌-◌, ◌<◌, ◌≤◌, Bool, true, List, if◌then◌else◌, nat_le}
use Rattle.threshold_pick.specs.Open.{is_open, is_skipped}
use Rattle.weight_exact.specs.Share.{is_at_bar}
use Rattle.weight_exact.specs.Weights.{Setup, cumulative, hypotheses, suspects, total}
use Rattle.weight_exact.specs.declared.run.Run.{Run}

-- Hypotheses i to j, of which there are two at least, are parted by skipped positions alone, and are at the bar
-- together: the sum of their weights is. A run at position p tells hypotheses up to p from those above it
pub record IsHidden (s : Setup) (runs : List Run) (skipped : List ℕ) (i j : ℕ) : Type 0 where
  pub first : 1 ≤ i
  pub some : i < j
  pub last : j ≤ hypotheses s
  pub skips : (p : ℕ) → i ≤ p → p < j → is_skipped skipped p ≡ true
  pub at_bar : s.bar_numerator * total s runs
      ≤ (cumulative s runs j - cumulative s runs (i - 1)) * s.bar_denominator

-- The bar is above a half, so hypotheses at the bar together hold the middle one; so it is enough to look at the
-- greatest block round that.

-- the first number from `low` + 1 on that passes a test, of so many, or the one behind them
abbrev pub first_from : (ℕ → Bool) → (low more : ℕ) → ℕ
first_from test low zero = low + 1
first_from test low (suc more) = if test (low + 1) then low + 1 else first_from test (low + 1) more

-- the middle hypothesis: the first with at least half of the weight up to it
abbrev pub middle : Setup → List Run → ℕ
middle s runs = first_from (λ i. nat_le (total s runs) (2 * cumulative s runs i)) 0 (suspects s)

-- the last position below a hypothesis that isn't skipped, or 0
abbrev pub last_below : (skipped : List ℕ) → (hypothesis : ℕ) → ℕ
last_below skipped zero = zero
last_below skipped (suc p) = if is_skipped skipped p then last_below skipped p else p

-- the first position from a hypothesis on that isn't skipped, or the one behind the last
abbrev pub first_at : (skipped : List ℕ) → (hypothesis last : ℕ) → ℕ
first_at skipped hypothesis last = first_from (is_open skipped) (hypothesis - 1) (last + 1 - hypothesis)

-- whether the greatest block round the middle, which skipped positions alone part, is at the bar
abbrev pub is_hidden : Setup → List Run → (skipped : List ℕ) → Bool
is_hidden s runs skipped =
    let m = middle s runs in
    is_at_bar s.bar_numerator s.bar_denominator (total s runs)
    (cumulative s runs (first_at skipped m (suspects s)) - cumulative s runs (last_below skipped m))
