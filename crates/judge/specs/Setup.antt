-- What a search line asks, as the code holds it.
use Rattle.std.specs.Prelude.{ℕ, List, Option, Some, None, if◌then◌else◌}
use Rattle.flake_rate.specs.Bar.{bar_numerator, bar_denominator}
use Rattle.judge.specs.declared.search.Search.{Search}
use Rattle.judge.specs.declared.search.Terms.{Terms}
use Rattle.weight_exact.specs.Factors.{factors_of}
use Rattle.weight_exact.specs.Limits.{are_weights}
use Rattle.weight_exact.specs.Weights.{Setup, setup}

-- the setup of a search on these terms, with these weights
abbrev pub setup_with : Terms → List ℕ → Setup
setup_with terms weights =
    setup weights terms.calm (factors_of terms.rate terms.miss) (bar_numerator terms.bar) (bar_denominator terms.bar)

abbrev pub setup_of : Search → Setup
setup_of search = setup_with search.terms search.weights.items

-- the same, where the weights are within their limits
abbrev pub search_with : Terms → List ℕ → Option Setup
search_with terms weights = if are_weights weights then Some (setup_with terms weights) else None
