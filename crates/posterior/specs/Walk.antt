-- What the walk that makes the sums anew asks of its numbers.
use Rattle.std.specs.Prelude.{◌≡◌, ℕ, ◌+◌, ◌^◌, ◌<◌, ◌≤◌, List, length, sum, vec_len}
use Rattle.weight_exact.specs.Budget.{Fits}
use Rattle.weight_exact.specs.Powers.{PowersOf}
use Rattle.weight_exact.specs.declared.limits.TheConstants.{MAX_SUSPECTS}
use Rattle.weight_exact.specs.declared.factors.Factors.{Factors}
use Rattle.posterior.specs.Kept.{at}
use Rattle.posterior.specs.KeptWeight.{kept_weight}
use Rattle.posterior.specs.declared.tallies.Tallies.{Tallies}

-- a prior and a sum for each hypothesis, a weight for "no culprit", and runs that the powers serve and that fit
pub record CanWalk (priors : List ℕ) (powers : PowersOf) (t : Tallies) (sums : List ℕ) : Type 0 where
  pub size : length priors ≡ vec_len t.fails + 1
  pub few : length priors ≤ MAX_SUSPECTS + 1
  pub room : length sums ≡ length priors
  pub small : t.failed + t.passed < 2 ^ 32
  pub together : t.failed + t.passed ≤ powers.budget
  pub fits : Fits (sum priors) powers.factors (t.failed + t.passed)
  pub calm : 1 ≤ at priors (length priors)
  pub some_fail : 1 ≤ powers.factors.fail_out
  pub some_pass : 1 ≤ powers.factors.pass_out

-- the weight of hypothesis i by the runs that are tallied
abbrev pub tallied_weight : (priors : List ℕ) (f : Factors) (t : Tallies) → ℕ → ℕ
tallied_weight priors f t = kept_weight priors f t.floor t.fails.items t.passes.items
