-- The likelihood of one run, by cases, as whole numbers.
use Rattle.std.specs.Prelude.{ℕ, ◌*◌, ◌-◌, ◌/◌, max, Bool, true, false, nat_le}
use Rattle.flake_rate.specs.Divisor.{gcd}
use Rattle.flake_rate.specs.Rate.{rate_numerator, rate_denominator}
use Rattle.flake_rate.specs.Miss.{miss_numerator, miss_denominator}
use Rattle.flake_rate.specs.declared.rate.Rate.{Rate}
use Rattle.flake_rate.specs.declared.miss.Miss.{Miss}
use Rattle.weight_exact.specs.declared.factors.Factors.{Factors}
use Rattle.weight_exact.specs.declared.run.Run.{Run}
use Rattle.weight_exact.specs.declared.run.Verdict.{Verdict}
use Rattle.weight_exact.specs.declared.run.Verdict.TheVariants.{Pass, Fail}

-- two numbers over their greatest common divisor: the same ratio in lowest terms
abbrev pub in_lowest_terms : ℕ → ℕ → ℕ × ℕ
in_lowest_terms x y = (x / gcd x y, y / gcd x y)

-- A sound tree fails with probability a/b, the flake rate. A tree with the culprit in passes with probability c/d, the
-- miss rate. So a fail has the likelihoods (d - c)/d and a/b, and a pass c/d and (b - a)/b: each pair over one
-- denominator, which all hypotheses share, and in lowest terms
abbrev pub factors : (a b c d : ℕ) → Factors
factors a b c d =
    let fail = in_lowest_terms ((d - c) * b) (a * d) in
    let pass = in_lowest_terms (c * b) ((b - a) * d) in
    record { fail_in = fail.0; fail_out = fail.1; pass_in = pass.0; pass_out = pass.1 }

-- the four numbers of a flake rate and a miss rate
abbrev pub factors_of : Rate → Miss → Factors
factors_of rate miss = factors (rate_numerator rate) (rate_denominator rate) (miss_numerator miss) (miss_denominator miss)

-- the number of a verdict where the culprit is in, and where it is out
abbrev pub verdict_factor : Factors → Verdict → Bool → ℕ
verdict_factor f Fail true = f.fail_in
verdict_factor f Fail false = f.fail_out
verdict_factor f Pass true = f.pass_in
verdict_factor f Pass false = f.pass_out

-- what a run multiplies hypothesis i by: a run at position k tests the tree with suspects 1 to k
abbrev pub factor : Factors → ℕ → Run → ℕ
factor f i r = verdict_factor f r.verdict (nat_le i r.position)

-- the greatest of the four numbers
abbrev pub greatest_factor : Factors → ℕ
greatest_factor f = max (max f.fail_in f.fail_out) (max f.pass_in f.pass_out)
