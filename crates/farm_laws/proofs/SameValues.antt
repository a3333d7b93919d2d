-- Values with the same numbers are equal, since a fact that a value keeps has one proof, and `==` tells.
use Rattle.std.proofs.Common.{◌≡◌, Decides, ap}
use Rattle.std.proofs.lemmas.Bool.Decides.{Decides-and, Decides-eqb, Decides-int_eq, Decides-like}
use Rattle.farm_types.specs.Moment.{moment_ms}
use Rattle.farm_types.specs.contracts.moment.MomentPartialEq.TheImpl as moment_eq
use Rattle.farm_types.specs.declared.moment.Moment.{Moment}
use Rattle.farm_types.proofs.SameValues.{moment_ms-injective}
use Rattle.flake_rate.proofs.Values.{bar-from_numbers, miss-from_numbers, rate-from_numbers}
use Rattle.flake_rate.specs.Bar.{bar_denominator, bar_numerator}
use Rattle.flake_rate.specs.Miss.{miss_denominator, miss_numerator}
use Rattle.flake_rate.specs.Rate.{rate_denominator, rate_numerator}
use Rattle.flake_rate.specs.contracts.bar.BarPartialEq.TheImpl as bar_eq
use Rattle.flake_rate.specs.contracts.miss.MissPartialEq.TheImpl as miss_eq
use Rattle.flake_rate.specs.contracts.rate.RatePartialEq.TheImpl as rate_eq
use Rattle.flake_rate.specs.declared.bar.Bar.{Bar}
use Rattle.flake_rate.specs.declared.miss.Miss.{Miss}
use Rattle.flake_rate.specs.declared.rate.Rate.{Rate}
use Rattle.farm_entry.proofs.SameSettings.{settings-from_numbers}
use Rattle.farm_entry.specs.Settings.{settings_daily, settings_lease_ms, settings_zone_minutes}
use Rattle.farm_entry.specs.contracts.settings.SettingsPartialEq.TheImpl as settings_eq
use Rattle.farm_entry.specs.declared.settings.Settings.{Settings}

-- by the tests

pub same_moment-Decides : (a b : Moment) → Decides (moment_eq.ghosts.eq a b) (a ≡ b)
same_moment-Decides a b =
    Decides-like _ (moment_ms-injective a b) (ap moment_ms) (Decides-eqb (moment_ms a) (moment_ms b))

pub same_settings-Decides : (a b : Settings) → Decides (settings_eq.ghosts.eq a b) (a ≡ b)
same_settings-Decides a b =
    Decides-like _ (λ same. settings-from_numbers a b same.0 same.1.0 same.1.1)
    (λ e. (ap settings_lease_ms e, (ap settings_daily e, ap settings_zone_minutes e)))
    (Decides-and _ _ (Decides-eqb (settings_lease_ms a) (settings_lease_ms b))
    (Decides-and _ _ (Decides-eqb (settings_daily a) (settings_daily b))
    (Decides-int_eq (settings_zone_minutes a) (settings_zone_minutes b))))

pub same_rate-Decides : (a b : Rate) → Decides (rate_eq.ghosts.eq a b) (a ≡ b)
same_rate-Decides a b =
    Decides-like _ (λ same. rate-from_numbers a b same.0 same.1) (λ e. (ap rate_numerator e, ap rate_denominator e))
    (Decides-and _ _ (Decides-eqb (rate_numerator a) (rate_numerator b))
    (Decides-eqb (rate_denominator a) (rate_denominator b)))

pub same_miss-Decides : (a b : Miss) → Decides (miss_eq.ghosts.eq a b) (a ≡ b)
same_miss-Decides a b =
    Decides-like _ (λ same. miss-from_numbers a b same.0 same.1) (λ e. (ap miss_numerator e, ap miss_denominator e))
    (Decides-and _ _ (Decides-eqb (miss_numerator a) (miss_numerator b))
    (Decides-eqb (miss_denominator a) (miss_denominator b)))

pub same_bar-Decides : (a b : Bar) → Decides (bar_eq.ghosts.eq a b) (a ≡ b)
same_bar-Decides a b =
    Decides-like _ (λ same. bar-from_numbers a b same.0 same.1) (λ e. (ap bar_numerator e, ap bar_denominator e))
    (Decides-and _ _ (Decides-eqb (bar_numerator a) (bar_numerator b))
    (Decides-eqb (bar_denominator a) (bar_denominator b)))
