-- Numbers of settings are within the limits.
use Rattle.std.proofs.Common.{◌≡◌, ℕ, ℤ, None, rules}
use Rattle.farm_entry.specs.Limits.{IsDailyLimit, IsLeaseTime, IsZone}
use Rattle.farm_entry.specs.Settings.{settings_fault}

pub no_fault : (lease daily : ℕ) (zone : ℤ) → IsLeaseTime lease → IsDailyLimit daily → IsZone zone →
    settings_fault lease daily zone ≡ None
no_fault lease daily zone in_lease in_daily in_zone = search rules
