use Rattle.std.specs.Prelude.{ℕ}
use Rattle.flake_rate.specs.declared.bar.Bar.{Bar}

-- the t of the bar t/u, as given
abbrev pub bar_numerator : Bar → ℕ
bar_numerator bar = bar.t

-- the u of the bar t/u, as given
abbrev pub bar_denominator : Bar → ℕ
bar_denominator bar = bar.u
