-- From the opening of a search to its inference: the only way from an entry to weights.
use Rattle.std.specs.Prelude.{ℕ, map}
use Rattle.flake_rate.specs.Bar.{bar_denominator, bar_numerator}
use Rattle.farm_types.specs.declared.commit_id.CommitId.{CommitId}
use Rattle.suspect_range.specs.Range.{commit_at}
use Rattle.weight_exact.specs.Budget.{run_budget}
use Rattle.weight_exact.specs.Factors.{factors_of}
use Rattle.weight_exact.specs.Weights.{Setup, setup}
use Rattle.farm_entry.specs.declared.opening.Opening.{Opening}

-- the prior weights, the likelihood numbers and the bar of a search
abbrev pub setup_of : Opening → Setup
setup_of o =
    setup (map (λ suspect. suspect.weight) o.range.suspects) o.range.calm (factors_of o.rate o.miss) (bar_numerator o.bar)
    (bar_denominator o.bar)

-- its budget, which bounds its load: the greatest for which its exact arithmetic has room
abbrev pub budget_of_search : Opening → ℕ
budget_of_search o = run_budget (setup_of o)

-- the commit at a position of its range
abbrev pub commit_of : Opening → (position : ℕ) → CommitId
commit_of o position = commit_at o.range.base o.range.suspects position
