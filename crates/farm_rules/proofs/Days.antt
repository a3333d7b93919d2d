-- The day of a moment lies within the limits of moments and zones, and has its milliseconds.
use Rattle.std.proofs.Common.{ℕ, ◌≤◌, ◌+◌, ℤ, pos, negsuc, ◌*ℤ◌, ◌≤ℤ◌, ◌<ℤ◌, arith}
use Rattle.std.specs.Int.{int_div_euclid}
use Rattle.std.proofs.lemmas.Int.{ints}
use Rattle.farm_types.specs.Limits.{IsMoment}
use Rattle.farm_types.specs.declared.moment.TheConstants.{LAST_DAY}
use Rattle.farm_types.specs.declared.zone.TheConstants.{ZONE_MAX_MINUTES, ZONE_MIN_MINUTES}
use Rattle.farm_rules.specs.Day.{day_at, local_ms, not_negative}
use Rattle.farm_rules.specs.declared.day.TheConstants.{MS_PER_DAY}

-- a number of milliseconds before the end of the last day is on that day or before it
day-le : (w : ℤ) → w ≤ℤ pos 4_102_531_199_999 → not_negative (int_div_euclid w MS_PER_DAY) ≤ LAST_DAY
day-le (pos a) low = let small : a ≤ 4_102_531_199_999 = omega (arith, ints, low) in omega arith
day-le (negsuc a) low = omega arith

-- no moment is on a later day than the last, in no zone
pub day_at-le : (ms : ℕ) (zone : ℤ) → IsMoment ms → zone ≤ℤ ZONE_MAX_MINUTES → day_at ms zone ≤ LAST_DAY
day_at-le ms zone moment east =
    let low : local_ms ms zone ≤ℤ pos 4_102_531_199_999 = omega (arith, ints, moment.1, east) in
    day-le (local_ms ms zone) low

day-begins : (w : ℤ) → pos 0 ≤ℤ w → (pos (not_negative (int_div_euclid w MS_PER_DAY)) *ℤ MS_PER_DAY) ≤ℤ w
day-begins (pos a) from = omega (arith, ints)
day-begins (negsuc a) from = absurd (omega (arith, ints, from))

day-ends : (w : ℤ) → pos 0 ≤ℤ w → w <ℤ (pos (not_negative (int_div_euclid w MS_PER_DAY) + 1) *ℤ MS_PER_DAY)
day-ends (pos a) from = omega (arith, ints)
day-ends (negsuc a) from = absurd (omega (arith, ints, from))

-- by no local clock a moment is before day 0
pub local_ms-positive : (ms : ℕ) (zone : ℤ) → IsMoment ms → ZONE_MIN_MINUTES ≤ℤ zone → pos 0 ≤ℤ local_ms ms zone
local_ms-positive ms zone moment west = omega (arith, ints, moment.0, west)

pub day_at-begins : (ms : ℕ) (zone : ℤ) → IsMoment ms → ZONE_MIN_MINUTES ≤ℤ zone →
    (pos (day_at ms zone) *ℤ MS_PER_DAY) ≤ℤ local_ms ms zone
day_at-begins ms zone moment west = day-begins (local_ms ms zone) (local_ms-positive ms zone moment west)

pub day_at-ends : (ms : ℕ) (zone : ℤ) → IsMoment ms → ZONE_MIN_MINUTES ≤ℤ zone →
    local_ms ms zone <ℤ (pos (day_at ms zone + 1) *ℤ MS_PER_DAY)
day_at-ends ms zone moment west = day-ends (local_ms ms zone) (local_ms-positive ms zone moment west)
