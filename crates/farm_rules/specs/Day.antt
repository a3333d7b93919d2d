-- The day of a moment, by which orders are limited.
use Rattle.std.specs.Prelude.{ℕ, zero, ℤ, pos, negsuc, ◌+ℤ◌, ◌*ℤ◌}
use Rattle.std.specs.Int.{int_div_euclid}
use Rattle.farm_rules.specs.declared.day.TheConstants.{MS_PER_DAY, MS_PER_MINUTE}

-- an integer that is not negative, as a number; 0 for one that is
abbrev pub not_negative : ℤ → ℕ
not_negative (pos n) = n
not_negative (negsuc n) = zero

-- the local time of a moment, in milliseconds, where local time is `zone` minutes ahead of UTC
abbrev pub local_ms : (moment : ℕ) → (zone : ℤ) → ℤ
local_ms moment zone = pos moment +ℤ zone *ℤ MS_PER_MINUTE

-- The day of a moment, in milliseconds since 1970-01-01 UTC: whole days since 1970-01-01 by the local clock. Within the
-- limits of moments and zones no day is before day 0
abbrev pub day_at : (moment : ℕ) → (zone : ℤ) → ℕ
day_at moment zone = not_negative (int_div_euclid (local_ms moment zone) MS_PER_DAY)
