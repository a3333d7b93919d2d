-- What a belief keeps true, as a fact on what contracts see.
use Rattle.std.specs.Prelude.{◌≡◌, ℕ, ◌+◌, ◌*◌, ◌<◌, ◌≤◌, length, sum}
use Rattle.flake_rate.specs.declared.bar.TheConstants.Bar as Bar
use Rattle.weight_exact.specs.Weights.{hypotheses, sum_to}
use Rattle.weight_exact.specs.Budget.{Fits, run_budget}
use Rattle.weight_exact.specs.declared.limits.TheConstants.{MAX_SUSPECTS}
use Rattle.posterior.specs.Kept.{Kept, at}
use Rattle.posterior.specs.Counted.{AreCleared, counted}
use Rattle.posterior.specs.KeptWeight.{kept_weight}

-- the kept weight of hypothesis i
abbrev pub weight_in : Kept → ℕ → ℕ
weight_in k i = kept_weight k.setup.priors k.setup.factors k.floor k.fails k.passes i

-- The counts fit the setup and the budget, and the sums are those of the weights that the counts make
pub record IsKept (k : Kept) : Type 0 where
  pub some_suspect : 2 ≤ hypotheses k.setup
  pub few_suspects : hypotheses k.setup ≤ MAX_SUSPECTS + 1
  pub some_calm : 1 ≤ at k.setup.priors (hypotheses k.setup)
  pub some_fail : 1 ≤ k.setup.factors.fail_out
  pub some_pass : 1 ≤ k.setup.factors.pass_out
  pub above_half : k.setup.bar_denominator < 2 * k.setup.bar_numerator
  pub below_one : k.setup.bar_numerator < k.setup.bar_denominator
  pub fine : k.setup.bar_denominator ≤ Bar.MAX_DENOMINATOR
  pub fits : Fits (sum k.setup.priors) k.setup.factors (run_budget k.setup)
  pub as_many_fails : length k.fails + 1 ≡ hypotheses k.setup
  pub as_many_passes : length k.passes + 1 ≡ hypotheses k.setup
  pub as_many_sums : length k.sums ≡ hypotheses k.setup
  pub floor_low : k.floor < hypotheses k.setup
  pub floor_if_missed : 1 ≤ k.setup.factors.pass_in → k.floor ≡ 0
  pub fails_cleared : AreCleared k.floor k.fails
  pub passes_cleared : AreCleared k.floor k.passes
  pub no_passes : k.setup.factors.pass_in ≡ 0 → counted k.passes ≡ 0
  pub load_is : k.load ≡ counted k.fails + counted k.passes
  pub within : k.load ≤ run_budget k.setup
  pub sums_are : (i : ℕ) → 1 ≤ i → i ≤ hypotheses k.setup → at k.sums i ≡ sum_to (weight_in k) i
