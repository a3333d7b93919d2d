-- How the fields of a belief are seen, and what they keep true.
use Rattle.std.specs.Prelude.{◌≡◌, ◌+◌, ◌≤◌, ℕ, Option}
use Rattle.flake_rate.specs.Bar.{bar_numerator, bar_denominator}
use Rattle.weight_exact.specs.Weights.{hypotheses}
use Rattle.weight_exact.specs.Share.{last_to, is_at_bar}
use Rattle.weight_exact.specs.Budget.{run_budget}
use Rattle.weight_exact.specs.declared.run_budget.TheConstants.{MAX_BUDGET}
use Rattle.posterior.specs.Kept.{Kept, whole}
use Rattle.posterior.specs.BeliefFacts.{IsKept, weight_in}
use Rattle.posterior.specs.declared.belief.Belief.TheInside.{Inside}

abbrev pub kept_of : Inside → Kept
kept_of b = record {
  setup = record { priors = b.priors.items; factors = b.factors; bar_numerator = bar_numerator b.bar; bar_denominator = bar_denominator b.bar };
  floor = b.tallies.floor;
  load = b.tallies.failed + b.tallies.passed;
  fails = b.tallies.fails.items;
  passes = b.tallies.passes.items;
  sums = b.sums;
}

-- the hypothesis whose kept weight is at the bar, if one is
abbrev pub reached_in : Kept → Option ℕ
reached_in k = last_to (λ i. is_at_bar k.setup.bar_numerator k.setup.bar_denominator (whole k) (weight_in k i)) (hypotheses k.setup)

pub record IsBelief (b : Inside) : Type 0 where
  pub kept : IsKept (kept_of b)
  pub powers_are : b.powers ≡ record { factors = b.factors; budget = b.budget }
  pub budget_is : b.budget ≡ run_budget (kept_of b).setup
  pub few_runs : b.budget ≤ MAX_BUDGET
  pub reached_is : b.reached ≡ reached_in (kept_of b)
