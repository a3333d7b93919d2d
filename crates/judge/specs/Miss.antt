-- A miss rate by its two numbers.
use Rattle.std.specs.Prelude.{ℕ}
use Rattle.flake_rate.specs.Miss.{miss_numerator, miss_denominator}
use Rattle.flake_rate.specs.declared.miss.Miss.{Miss}

abbrev pub miss_terms : Miss → ℕ × ℕ
miss_terms miss = (miss_numerator miss, miss_denominator miss)
