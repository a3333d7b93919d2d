-- Runs of worked numbers.
use Rattle.std.specs.Prelude.{ℕ}
use Rattle.weight_exact.specs.declared.run.Run.{Run}
use Rattle.weight_exact.specs.declared.run.Verdict.TheVariants.{Pass, Fail}

-- a run that failed, and one that passed
abbrev pub fail_at : ℕ → Run
fail_at k = record { position = k; verdict = Fail }

abbrev pub pass_at : ℕ → Run
pass_at k = record { position = k; verdict = Pass }
