-- Products of likelihood numbers: many runs at once.
use Rattle.std.specs.Prelude.{ℕ, ◌+◌, ◌*◌, ◌^◌}
use Rattle.weight_exact.specs.declared.factors.Factors.{Factors}
use Rattle.weight_exact.specs.declared.powers.Counts.{Counts}

-- what the tables of powers serve: four likelihood numbers, up to so many together
pub record PowersOf : Type 0 where
  pub factors : Factors
  pub budget : ℕ

-- how many runs are counted, of all four kinds
abbrev pub count_of : Counts → ℕ
count_of counts = counts.fail_in + counts.fail_out + counts.pass_in + counts.pass_out

-- x times the numbers of these runs: each likelihood number to the power of its count
abbrev pub product : Factors → ℕ → Counts → ℕ
product f x counts =
    x * f.fail_in ^ counts.fail_in * f.fail_out ^ counts.fail_out
    * f.pass_in ^ counts.pass_in * f.pass_out ^ counts.pass_out
