-- The searches that a history opened, and the limits that each was opened within.
use Rattle.std.specs.Prelude.{◌≡◌, ℕ, ◌≤◌, List, Some}
use Rattle.flake_rate.specs.Miss.{FitsRate}
use Rattle.suspect_range.specs.Range.{IsSuspectRange}
use Rattle.weight_exact.specs.declared.limits.TheConstants.{MAX_WIDTH}
use Rattle.farm_entry.specs.History.{opening_numbered}
use Rattle.farm_entry.specs.declared.entry.Entry.{Entry}
use Rattle.farm_entry.specs.declared.limits.TheConstants.{MAX_RERUNS}
use Rattle.farm_entry.specs.declared.opening.Opening.{Opening}

-- a history opened a search with this number
abbrev pub HasOpening : List Entry → (search : ℕ) → Type 0
HasOpening H search = (o : Opening) × (opening_numbered H search ≡ Some o)

-- a search was opened within the limits: of its suspects and their weights, of its miss rate beside its flake rate, of
-- its width and of its reruns
pub record OpenWithin (o : Opening) : Type 0 where
  pub range : IsSuspectRange o.range.base o.range.suspects o.range.calm
  pub miss : FitsRate o.miss o.rate
  pub width : (1 ≤ o.width) × (o.width ≤ MAX_WIDTH)
  pub reruns : (1 ≤ o.reruns) × (o.reruns ≤ MAX_RERUNS)
