-- The limits of the three fractions, over plain numbers.
use Rattle.std.specs.Prelude.{ℕ, ◌+◌, ◌*◌, ◌<◌, ◌≤◌}
use Rattle.flake_rate.specs.declared.bar.TheConstants.Bar as Bar
use Rattle.flake_rate.specs.declared.miss.TheConstants.Miss as Miss
use Rattle.flake_rate.specs.declared.rate.TheConstants.Rate as Rate

-- a flake rate a/b lies strictly between 0 and 1, and its denominator is within its limit
abbrev pub IsRate : ℕ → ℕ → Type 0
IsRate a b = (1 ≤ a) × (a < b) × (b ≤ Rate.MAX_DENOMINATOR)

-- a miss rate c/d lies from 0 to below 1, and its denominator is within its limit
abbrev pub IsMiss : ℕ → ℕ → Type 0
IsMiss c d = (c < d) × (d ≤ Miss.MAX_DENOMINATOR)

-- a bar t/u lies strictly between 1/2 and 1, and its denominator is within its limit
abbrev pub IsBar : ℕ → ℕ → Type 0
IsBar t u = (u ≤ Bar.MAX_DENOMINATOR) × (u < 2 * t) × (t < u)

-- a broken test, which fails at 1 - c/d, fails more often than a sound one, which fails at a/b
abbrev pub IsTold : ℕ → ℕ → ℕ → ℕ → Type 0
IsTold c d a b = c * b + a * d < b * d
