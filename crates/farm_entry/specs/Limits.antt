-- The limits of a farm's settings, over plain numbers.
use Rattle.std.specs.Prelude.{ℕ, ◌≤◌, ℤ, ◌≤ℤ◌}
use Rattle.farm_types.specs.declared.zone.TheConstants.{ZONE_MIN_MINUTES, ZONE_MAX_MINUTES}
use Rattle.farm_entry.specs.declared.settings.TheConstants.{LEASE_MIN_MS, LEASE_MAX_MS, MAX_DAILY}

-- how long a lease may last, in milliseconds
abbrev pub IsLeaseTime : ℕ → Type 0
IsLeaseTime ms = (LEASE_MIN_MS ≤ ms) × (ms ≤ LEASE_MAX_MS)

-- how many orders a day may have
abbrev pub IsDailyLimit : ℕ → Type 0
IsDailyLimit orders = orders ≤ MAX_DAILY

-- how far a time zone may lie east of UTC, in minutes
abbrev pub IsZone : ℤ → Type 0
IsZone minutes = (ZONE_MIN_MINUTES ≤ℤ minutes) × (minutes ≤ℤ ZONE_MAX_MINUTES)
