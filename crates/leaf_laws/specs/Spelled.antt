-- Opens that differ in how their rates are spelled.
use Rattle.std.specs.Prelude.{◌≡◌, ℕ, ◌*◌}
use Rattle.flake_rate.specs.Limits.{IsMiss, IsRate}
use Rattle.farm_entry.specs.declared.command.OpenAsk.{OpenAsk}

-- two fractions have one value
abbrev pub AreEqual : ℕ × ℕ → ℕ × ℕ → Type 0
AreEqual first second = first.0 * second.1 ≡ second.0 * first.1

-- two opens ask for the same but for the spelling of the flake rate and of the miss rate: each has one value in both,
-- and is within its limits as it is spelled
pub record IsSpelledOtherwise (ask other : OpenAsk) : Type 0 where
  pub rest : other ≡ (record ask { rate = other.rate; miss = other.miss })
  pub rate : AreEqual ask.rate other.rate
  pub rate_in : IsRate ask.rate.0 ask.rate.1
  pub other_rate_in : IsRate other.rate.0 other.rate.1
  pub miss : AreEqual ask.miss other.miss
  pub miss_in : IsMiss ask.miss.0 ask.miss.1
  pub other_miss_in : IsMiss other.miss.0 other.miss.1
