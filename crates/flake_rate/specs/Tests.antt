-- The limits as tests.
use Rattle.std.specs.Prelude.{ℕ, ◌+◌, ◌*◌, Bool, ◌&&◌, nat_le, nat_lt}
use Rattle.flake_rate.specs.Miss.{miss_numerator, miss_denominator}
use Rattle.flake_rate.specs.Rate.{rate_numerator, rate_denominator}
use Rattle.flake_rate.specs.declared.bar.TheConstants.Bar as Bar
use Rattle.flake_rate.specs.declared.miss.Miss.{Miss}
use Rattle.flake_rate.specs.declared.miss.TheConstants.Miss as Miss
use Rattle.flake_rate.specs.declared.rate.Rate.{Rate}
use Rattle.flake_rate.specs.declared.rate.TheConstants.Rate as Rate

-- whether two numbers are a flake rate
abbrev pub is_rate : ℕ → ℕ → Bool
is_rate a b = nat_le 1 a && nat_lt a b && nat_le b Rate.MAX_DENOMINATOR

-- whether two numbers are a miss rate
abbrev pub is_miss : ℕ → ℕ → Bool
is_miss c d = nat_lt c d && nat_le d Miss.MAX_DENOMINATOR

-- whether two numbers are a bar
abbrev pub is_bar : ℕ → ℕ → Bool
is_bar t u = nat_le u Bar.MAX_DENOMINATOR && nat_lt u (2 * t) && nat_lt t u

-- whether a broken test, which fails at 1 - c/d, fails more often than a sound one, which fails at a/b
abbrev pub is_told : (c d a b : ℕ) → Bool
is_told c d a b = nat_lt (c * b + a * d) (b * d)

-- whether it does so with this miss rate at this flake rate
abbrev pub fits_rate : Miss → Rate → Bool
fits_rate miss rate =
    is_told (miss_numerator miss) (miss_denominator miss) (rate_numerator rate) (rate_denominator rate)
