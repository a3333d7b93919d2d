-- Settings with the same numbers are equal, since a fact that a value keeps has one proof.
use Rattle.std.proofs.Common.{◌≡◌}
use Rattle.std.proofs.Props.{props}
use mathlib.Core.HLevel.{is_prop→PathP}
use Rattle.farm_entry.specs.Limits.{IsDailyLimit, IsLeaseTime, IsZone}
use Rattle.farm_entry.specs.Settings.{settings_daily, settings_lease_ms, settings_zone_minutes}
use Rattle.farm_entry.specs.declared.settings.Settings.{Settings}

pub settings-from_numbers : (a b : Settings) → settings_lease_ms a ≡ settings_lease_ms b → settings_daily a ≡ settings_daily b
    → settings_zone_minutes a ≡ settings_zone_minutes b → a ≡ b
settings-from_numbers a b lease daily zone = λ i. record {
  lease_ms = lease i;
  daily = daily i;
  zone_minutes = zone i;
  lease_in_range = is_prop→PathP (λ j. IsLeaseTime (lease j)) (λ j. hlevel props) a.lease_in_range b.lease_in_range i;
  daily_in_range = is_prop→PathP (λ j. IsDailyLimit (daily j)) (λ j. hlevel props) a.daily_in_range b.daily_in_range i;
  zone_in_range = is_prop→PathP (λ j. IsZone (zone j)) (λ j. hlevel props) a.zone_in_range b.zone_in_range i;
}
