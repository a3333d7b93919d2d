-- Values from the numbers that spell them, where these are within their limits.
use Rattle.std.specs.Prelude.{ℕ, zero, suc, nat_le, nat_lt, ◌==◌, ◌&&◌, Bool, true, List, [], ◌∷◌, length, if◌then◌else◌, Option, Some, None, is_none, IsTrue, ℤ, pos, int_le, ◌+ℤ◌}
use Rattle.std.specs.Option.{option_and_then}
use Rattle.std.proofs.Common.{T, lit<, subst, sym}
use Rattle.std.proofs.lemmas.Bool.{and_parts, eqb-true, leb-true, ltb-true}
use Rattle.hex.specs.Hex.{IsBytes}
use Rattle.flake_rate.specs.Divisor.{gcd}
use Rattle.flake_rate.specs.Tests.{fits_rate, is_miss, is_rate}
use Rattle.flake_rate.specs.declared.miss.Miss.{Miss}
use Rattle.flake_rate.specs.declared.rate.Rate.{Rate}
use Rattle.flake_rate.proofs.Limits.{miss-within, rate-within}
use Rattle.farm_types.specs.Limits.{is_moment}
use Rattle.farm_types.proofs.Limits.{moment-within}
use Rattle.farm_types.specs.Name.{name_fault}
use Rattle.farm_types.specs.declared.commit_id.CommitId.{CommitId}
use Rattle.farm_types.specs.declared.commit_id.TheConstants.{ID_BYTES}
use Rattle.farm_types.specs.declared.moment.Moment.{Moment}
use Rattle.farm_types.specs.declared.stage.Stage.{Stage}
use Rattle.farm_types.specs.declared.stage.Stage.TheVariants.{Search, Verify}
use Rattle.farm_types.specs.declared.zone.TheConstants.{ZONE_MAX_MINUTES, ZONE_MIN_MINUTES}
use Rattle.suspect_range.specs.Faults.{range_fault}
use Rattle.suspect_range.specs.Range.{RangeView}
use Rattle.suspect_range.specs.declared.suspect.Suspect.{Suspect}
use Rattle.weight_exact.specs.declared.run.Verdict.{Verdict}
use Rattle.weight_exact.specs.declared.run.Verdict.TheVariants.{Pass, Fail}
use Rattle.weight_exact.specs.Limits.{is_within}
use Rattle.farm_entry.specs.Ask.{when_passed}
use Rattle.farm_entry.specs.Limits.{IsDailyLimit, IsLeaseTime, IsZone}
use Rattle.farm_entry.specs.declared.entry.Fate.{Fate}
use Rattle.farm_entry.specs.declared.entry.Fate.TheVariants.{Counted, Late, Over}
use Rattle.farm_entry.specs.declared.entry.SkipFate.{SkipFate}
use Rattle.farm_entry.specs.declared.entry.SkipFate.TheVariants as skip
use Rattle.farm_entry.specs.declared.settings.Settings.{Settings}
use Rattle.farm_entry.specs.declared.settings.TheConstants.{LEASE_MAX_MS, LEASE_MIN_MS, MAX_DAILY}
use Rattle.entry_codec.specs.declared.marks.TheConstants.{COUNTED_MARK, FAIL_MARK, LATE_MARK, OVER_MARK, PASS_MARK, SEARCH_MARK, TAKEN_MARK, VERIFY_MARK}

-- moments

-- the moment at a number of milliseconds
abbrev pub moment_of : ℕ → Option Moment
moment_of ms = when_passed (is_moment ms) (λ within. record { ms = ms; in_range = moment-within ms within })

-- ids of commits

abbrev pub are_bytes : List ℕ → Bool
are_bytes [] = true
are_bytes (b ∷ bytes) = nat_lt b 256 && are_bytes bytes

pub IsBytes-from_test : (bytes : List ℕ) → IsTrue (are_bytes bytes) → IsBytes bytes
IsBytes-from_test [] h i = lit< tt
IsBytes-from_test (b ∷ bytes) h zero = ltb-true _ _ (and_parts (nat_lt b 256) (are_bytes bytes) h).0
IsBytes-from_test (b ∷ bytes) h (suc i) = IsBytes-from_test bytes (and_parts (nat_lt b 256) (are_bytes bytes) h).1 i

-- the id with these bytes
abbrev pub id_of : List ℕ → Option CommitId
id_of bytes = when_passed (length bytes == ID_BYTES && are_bytes bytes) (λ h. record {
  bytes = bytes;
  whole = eqb-true _ _ (and_parts (length bytes == ID_BYTES) (are_bytes bytes) h).0;
  fits = IsBytes-from_test bytes (and_parts (length bytes == ID_BYTES) (are_bytes bytes) h).1;
})

-- the name with these bytes
abbrev pub name_of : List ℕ → Option (List ℕ)
name_of text = if is_none (name_fault text) then Some text else None

-- marks

abbrev pub stage_of : ℕ → Option Stage
stage_of mark = if mark == SEARCH_MARK then Some Search else if mark == VERIFY_MARK then Some Verify else None

abbrev pub verdict_of : ℕ → Option Verdict
verdict_of mark = if mark == PASS_MARK then Some Pass else if mark == FAIL_MARK then Some Fail else None

abbrev pub fate_of : ℕ → Option Fate
fate_of mark =
    if mark == COUNTED_MARK then Some Counted else if mark == LATE_MARK then Some Late
    else if mark == OVER_MARK then Some Over else None

abbrev pub skip_fate_of : ℕ → Option SkipFate
skip_fate_of mark =
    if mark == TAKEN_MARK then Some skip.Taken else if mark == LATE_MARK then Some skip.Late else None

-- settings

abbrev pub is_lease_time : ℕ → Bool
is_lease_time ms = nat_le LEASE_MIN_MS ms && nat_le ms LEASE_MAX_MS

abbrev pub is_zone : ℤ → Bool
is_zone minutes = int_le ZONE_MIN_MINUTES minutes && int_le minutes ZONE_MAX_MINUTES

abbrev pub are_settings : (lease_ms daily : ℕ) (minutes : ℤ) → Bool
are_settings lease_ms daily minutes = is_lease_time lease_ms && (nat_le daily MAX_DAILY && is_zone minutes)

-- a test that holds
told : (test : Bool) → IsTrue test → T test
told test h = subst T (sym h) tt

pub lease-within : (lease_ms daily : ℕ) (minutes : ℤ) → IsTrue (are_settings lease_ms daily minutes) →
    IsLeaseTime lease_ms
lease-within lease_ms daily minutes h =
    let both = and_parts _ _ (and_parts _ _ h).0 in (leb-true _ _ both.0, leb-true _ _ both.1)

pub daily-within : (lease_ms daily : ℕ) (minutes : ℤ) → IsTrue (are_settings lease_ms daily minutes) →
    IsDailyLimit daily
daily-within lease_ms daily minutes h = leb-true _ _ (and_parts _ _ (and_parts _ _ h).1).0

pub zone-within : (lease_ms daily : ℕ) (minutes : ℤ) → IsTrue (are_settings lease_ms daily minutes) → IsZone minutes
zone-within lease_ms daily minutes h =
    let both = and_parts _ _ (and_parts _ _ (and_parts _ _ h).1).1 in
    (record { le = told _ both.0 }, record { le = told _ both.1 })

-- the zone that lies so many minutes east of the westernmost one
abbrev pub zone_at : ℕ → ℤ
zone_at number = pos number +ℤ ZONE_MIN_MINUTES

-- the settings with three numbers, of which the last counts minutes from the westernmost zone
abbrev pub settings_of : (lease_ms daily zone : ℕ) → Option Settings
settings_of lease_ms daily zone = when_passed (are_settings lease_ms daily (zone_at zone)) (λ within. record {
  lease_ms = lease_ms;
  daily = daily;
  zone_minutes = zone_at zone;
  lease_in_range = lease-within lease_ms daily (zone_at zone) within;
  daily_in_range = daily-within lease_ms daily (zone_at zone) within;
  zone_in_range = zone-within lease_ms daily (zone_at zone) within;
})

-- rates

-- the flake rate a/b, where these are its numbers in lowest terms
abbrev pub lowest_rate : (a b : ℕ) → Option Rate
lowest_rate a b = when_passed (is_rate a b && gcd a b == 1) (λ h. record {
  a = a;
  b = b;
  in_limits = rate-within a b (and_parts (is_rate a b) (gcd a b == 1) h).0;
  lowest_terms = eqb-true _ _ (and_parts (is_rate a b) (gcd a b == 1) h).1;
})

-- the miss rate c/d, where these are its numbers in lowest terms
abbrev pub lowest_miss : (c d : ℕ) → Option Miss
lowest_miss c d = when_passed (is_miss c d && gcd c d == 1) (λ h. record {
  c = c;
  d = d;
  in_limits = miss-within c d (and_parts (is_miss c d) (gcd c d == 1) h).0;
  lowest_terms = eqb-true _ _ (and_parts (is_miss c d) (gcd c d == 1) h).1;
})

-- a miss rate above 0 that fits a flake rate
abbrev pub if_fitting : Rate → (c : ℕ) → Miss → Option Miss
if_fitting rate c miss = if nat_le 1 c && fits_rate miss rate then Some miss else None

-- the miss rate c/d above 0, where these are its numbers in lowest terms and it fits a flake rate
abbrev pub fitting_miss : Rate → (c d : ℕ) → Option Miss
fitting_miss rate c d = option_and_then (if_fitting rate c) (lowest_miss c d)

-- a number from 1 to a limit
abbrev pub up_to : (limit number : ℕ) → Option ℕ
up_to limit number = if is_within limit number then Some number else None

-- the range with these parts
abbrev pub range_of : CommitId → (calm : ℕ) → List Suspect → Option RangeView
range_of base calm suspects =
    if is_none (range_fault base suspects calm) then Some (record { base = base; suspects = suspects; calm = calm })
    else None
