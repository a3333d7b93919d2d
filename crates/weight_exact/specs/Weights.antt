-- Bayes' rule in whole numbers: a weight is the prior times the likelihood of independent runs.
use Rattle.std.specs.Prelude.{ℕ, zero, suc, ◌+◌, ◌*◌, ◌-◌, ◌≤◌, ◌<◌, List, [], ◌∷◌, ◌++◌, length, slice_index, All}
use Rattle.weight_exact.specs.Factors.{factor}
use Rattle.weight_exact.specs.declared.factors.Factors.{Factors}
use Rattle.weight_exact.specs.declared.run.Run.{Run}

-- what a search is opened with: the prior weights of suspects 1 to n and then that of "no culprit", the likelihood
-- numbers, and the bar as a fraction
pub record Setup : Type 0 where
  pub priors : List ℕ
  pub factors : Factors
  pub bar_numerator : ℕ
  pub bar_denominator : ℕ

-- the setup of n suspects with these weights, and the calm weight of "no culprit"
abbrev pub setup : List ℕ → ℕ → Factors → ℕ → ℕ → Setup
setup weights calm f t u = record { priors = weights ++ calm ∷ []; factors = f; bar_numerator = t; bar_denominator = u }

-- the number of hypotheses, n + 1, of which the last is "no culprit"
abbrev pub hypotheses : Setup → ℕ
hypotheses s = length s.priors

-- the number of suspects, n
abbrev pub suspects : Setup → ℕ
suspects s = length s.priors - 1

-- the prior weight of hypothesis i, for i from 1 to n + 1
abbrev pub prior : Setup → ℕ → ℕ
prior s i = slice_index s.priors (i - 1)

-- the likelihood of a list of runs under hypothesis i: the product of its numbers
abbrev pub likelihood : Factors → ℕ → List Run → ℕ
likelihood f i [] = 1
likelihood f i (r ∷ rs) = factor f i r * likelihood f i rs

-- the weight of hypothesis i after a list of runs: prior times likelihood
abbrev pub weight : Setup → List Run → ℕ → ℕ
weight s runs i = prior s i * likelihood s.factors i runs

-- the sum of w over 1 to i
abbrev pub sum_to : (ℕ → ℕ) → ℕ → ℕ
sum_to w zero = 0
sum_to w (suc i) = sum_to w i + w (suc i)

-- the cumulative weight of hypotheses 1 to i
abbrev pub cumulative : Setup → List Run → ℕ → ℕ
cumulative s runs i = sum_to (weight s runs) i

-- the weight of all hypotheses
abbrev pub total : Setup → List Run → ℕ
total s runs = cumulative s runs (hypotheses s)

-- each run is at a position from 1 to n
abbrev pub AreInRange : Setup → List Run → Type 0
AreInRange s runs = All (λ (r : Run). (1 ≤ r.position) × (r.position < hypotheses s)) runs
