use Rattle.std.specs.Prelude.{ℕ}
use Rattle.flake_rate.specs.Limits.{IsTold}
use Rattle.flake_rate.specs.Rate.{rate_numerator, rate_denominator}
use Rattle.flake_rate.specs.declared.miss.Miss.{Miss}
use Rattle.flake_rate.specs.declared.rate.Rate.{Rate}

-- the c of the miss rate c/d in lowest terms
abbrev pub miss_numerator : Miss → ℕ
miss_numerator miss = miss.c

-- the d of the miss rate c/d in lowest terms
abbrev pub miss_denominator : Miss → ℕ
miss_denominator miss = miss.d

-- with this miss rate a broken test still fails more often than a sound one does at this flake rate
abbrev pub FitsRate : Miss → Rate → Type 0
FitsRate miss rate =
    IsTold (miss_numerator miss) (miss_denominator miss) (rate_numerator rate) (rate_denominator rate)
