-- The same search, weighed by the plain table.
use Rattle.std.specs.Prelude.{ℕ, ◌-◌, not, List, count_by}
use Rattle.weight_exact.specs.Load.{is_fail}
use Rattle.weight_exact.specs.Weights.{Setup}
use Rattle.weight_exact.specs.declared.factors.Factors.{Factors}
use Rattle.weight_exact.specs.declared.run.Run.{Run}

-- the plain table of a rate where a broken test never passes: b and a for a fail, 0 and b - a for a pass
abbrev pub plain_factors : (a b : ℕ) → Factors
plain_factors a b = record { fail_in = b; fail_out = a; pass_in = 0; pass_out = b - a }

-- the setup with the plain table of the rate a/b for its likelihood numbers
abbrev pub on_plain_table : Setup → (a b : ℕ) → Setup
on_plain_table s a b = record s { factors = plain_factors a b }

-- how many runs of a list passed
abbrev pub passes : List Run → ℕ
passes runs = count_by (λ r. not (is_fail r.verdict)) runs
