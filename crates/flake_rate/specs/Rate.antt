use Rattle.std.specs.Prelude.{ℕ}
use Rattle.flake_rate.specs.declared.rate.Rate.{Rate}

-- the a of the flake rate a/b in lowest terms
abbrev pub rate_numerator : Rate → ℕ
rate_numerator rate = rate.a

-- the b of the flake rate a/b in lowest terms
abbrev pub rate_denominator : Rate → ℕ
rate_denominator rate = rate.b
