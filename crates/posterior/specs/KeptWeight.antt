-- The weights that are made from counts.
use Rattle.std.specs.Prelude.{ℕ, ◌-◌, List, nat_le, if◌then◌else◌}
use Rattle.weight_exact.specs.Powers.{product}
use Rattle.weight_exact.specs.declared.factors.Factors.{Factors}
use Rattle.weight_exact.specs.declared.powers.Counts.{Counts}
use Rattle.posterior.specs.Kept.{at}
use Rattle.posterior.specs.Counted.{counted_to, counted}

-- what hypothesis i makes of the counted runs: those at positions from i on had its culprit in, the others had it out
abbrev pub kept_counts : (fails passes : List ℕ) → ℕ → Counts
kept_counts fails passes i = record {
  fail_in = counted fails - counted_to fails (i - 1);
  fail_out = counted_to fails (i - 1);
  pass_in = counted passes - counted_to passes (i - 1);
  pass_out = counted_to passes (i - 1);
}

-- the weight of hypothesis i but for the factor that all live hypotheses share; those up to the floor weigh nothing
abbrev pub kept_weight : (priors : List ℕ) (f : Factors) (floor : ℕ) (fails passes : List ℕ) → ℕ → ℕ
kept_weight priors f floor fails passes i = if nat_le i floor then 0 else product f (at priors i) (kept_counts fails passes i)
