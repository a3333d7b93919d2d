-- What a farm was founded with.
use Rattle.std.specs.Prelude.{ℕ, nat_le, ◌&&◌, ℤ, int_le, Option, Some, None, if◌then◌else◌}
use Rattle.std.specs.Option.{option_or}
use Rattle.farm_types.specs.declared.zone.TheConstants.{ZONE_MIN_MINUTES, ZONE_MAX_MINUTES}
use Rattle.farm_entry.specs.declared.settings.Settings.{Settings}
use Rattle.farm_entry.specs.declared.settings.SettingsFault.{SettingsFault}
use Rattle.farm_entry.specs.declared.settings.SettingsFault.TheVariants.{Lease, Daily, Zone}
use Rattle.farm_entry.specs.declared.settings.TheConstants.{LEASE_MIN_MS, LEASE_MAX_MS, MAX_DAILY}

-- how long a lease lasts, in milliseconds
abbrev pub settings_lease_ms : Settings → ℕ
settings_lease_ms settings = settings.lease_ms

-- the most orders of a day
abbrev pub settings_daily : Settings → ℕ
settings_daily settings = settings.daily

-- how far the farm's time zone lies east of UTC, in minutes
abbrev pub settings_zone_minutes : Settings → ℤ
settings_zone_minutes settings = settings.zone_minutes

-- a lease that is too short or too long
abbrev pub lease_fault : ℕ → Option SettingsFault
lease_fault ms = if nat_le LEASE_MIN_MS ms && nat_le ms LEASE_MAX_MS then None else Some (Lease ms)

-- too many orders a day
abbrev pub daily_fault : ℕ → Option SettingsFault
daily_fault orders = if nat_le orders MAX_DAILY then None else Some (Daily orders)

-- a zone too far west or too far east
abbrev pub zone_fault : ℤ → Option SettingsFault
zone_fault minutes =
    if int_le ZONE_MIN_MINUTES minutes && int_le minutes ZONE_MAX_MINUTES then None else Some (Zone minutes)

-- why three numbers are no settings, if they are none: the first that is outside its limits
abbrev pub settings_fault : ℕ → ℕ → ℤ → Option SettingsFault
settings_fault lease_ms daily zone_minutes =
    option_or (lease_fault lease_ms) (option_or (daily_fault daily) (zone_fault zone_minutes))
