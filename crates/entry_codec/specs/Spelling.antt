-- The one spelling of each entry, and of a list of entries. Numbers stand with their highest byte first.
use Rattle.std.specs.Prelude.{ℕ, List, [], ◌++◌, length, ◌==◌, if◌then◌else◌, ◌-ℤ◌}
use Rattle.std.specs.List.{flat_map}
use Rattle.std.specs.Int.RustNames.{unsigned_abs}
use Rattle.byteorder.specs.Endian.{big_bytes}
use Rattle.flake_rate.specs.Bar.{bar_denominator, bar_numerator}
use Rattle.flake_rate.specs.Miss.{miss_denominator, miss_numerator}
use Rattle.flake_rate.specs.Rate.{rate_denominator, rate_numerator}
use Rattle.flake_rate.specs.declared.bar.Bar.{Bar}
use Rattle.flake_rate.specs.declared.miss.Miss.{Miss}
use Rattle.flake_rate.specs.declared.rate.Rate.{Rate}
use Rattle.farm_types.specs.CommitId.{id_bytes}
use Rattle.farm_types.specs.Moment.{moment_ms}
use Rattle.farm_types.specs.declared.stage.Stage.{Stage}
use Rattle.farm_types.specs.declared.stage.Stage.TheVariants.{Search, Verify}
use Rattle.farm_types.specs.declared.zone.TheConstants.{ZONE_MIN_MINUTES}
use Rattle.suspect_range.specs.Range.{RangeView}
use Rattle.suspect_range.specs.declared.suspect.Suspect.{Suspect}
use Rattle.weight_exact.specs.declared.run.Verdict.{Verdict}
use Rattle.weight_exact.specs.declared.run.Verdict.TheVariants.{Pass, Fail}
use Rattle.farm_entry.specs.Settings.{settings_daily, settings_lease_ms, settings_zone_minutes}
use Rattle.farm_entry.specs.declared.entry.Entry.{Entry}
use Rattle.farm_entry.specs.declared.entry.Fate.{Fate}
use Rattle.farm_entry.specs.declared.entry.Fate.TheVariants.{Counted, Late, Over}
use Rattle.farm_entry.specs.declared.entry.SkipFate.{SkipFate}
use Rattle.farm_entry.specs.declared.entry.SkipFate.TheVariants as skip
use Rattle.farm_entry.specs.declared.entry.What.{What}
use Rattle.farm_entry.specs.declared.entry.What.TheVariants.{Founded, Opened, Leased, Reported, Skipped, Cancelled, Ordered, Carried, Closed}
use Rattle.farm_entry.specs.declared.opening.Opening.{Opening}
use Rattle.farm_entry.specs.declared.settings.Settings.{Settings}
use Rattle.entry_codec.specs.declared.marks.TheConstants.{CANCELLED_TAG, CARRIED_TAG, CLOSED_TAG, COUNTED_MARK, FAIL_MARK, FOUNDED_TAG, LATE_MARK, LEASED_TAG, OPENED_TAG, OPENED_WITH_MISS_TAG, ORDERED_TAG, OVER_MARK, PASS_MARK, REPORTED_TAG, SEARCH_MARK, SKIPPED_TAG, TAKEN_MARK, VERIFY_MARK}

-- a number as so many bytes
unfoldable pub number_bytes : (bytes number : ℕ) → List ℕ
number_bytes bytes number = big_bytes bytes number

-- a name: how many bytes it has, and these
abbrev pub name_bytes : List ℕ → List ℕ
name_bytes text = number_bytes 1 (length text) ++ text

-- what a run is for
abbrev pub stage_mark : Stage → ℕ
stage_mark Search = SEARCH_MARK
stage_mark Verify = VERIFY_MARK

-- what a test said
abbrev pub verdict_mark : Verdict → ℕ
verdict_mark Pass = PASS_MARK
verdict_mark Fail = FAIL_MARK

-- what a report did
abbrev pub fate_mark : Fate → ℕ
fate_mark Counted = COUNTED_MARK
fate_mark Late = LATE_MARK
fate_mark Over = OVER_MARK

-- what a report did that says that a tree can't be tested
abbrev pub skip_fate_mark : SkipFate → ℕ
skip_fate_mark skip.Taken = TAKEN_MARK
skip_fate_mark skip.Late = LATE_MARK

-- how far a time zone lies east of the westernmost one, in minutes
abbrev pub zone_number : Settings → ℕ
zone_number settings = unsigned_abs (settings_zone_minutes settings -ℤ ZONE_MIN_MINUTES)

abbrev pub settings_bytes : Settings → List ℕ
settings_bytes settings =
    number_bytes 4 (settings_lease_ms settings) ++ number_bytes 2 (settings_daily settings)
    ++ number_bytes 2 (zone_number settings)

-- a suspect: its commit and its weight
abbrev pub suspect_bytes : Suspect → List ℕ
suspect_bytes suspect = id_bytes suspect.commit ++ number_bytes 2 suspect.weight

-- a range: its base, its calm weight, how many suspects it has, and these
abbrev pub range_bytes : RangeView → List ℕ
range_bytes range =
    id_bytes range.base ++ number_bytes 4 range.calm ++ number_bytes 2 (length range.suspects)
    ++ flat_map suspect_bytes range.suspects

abbrev pub rate_bytes : Rate → List ℕ
rate_bytes rate = number_bytes 2 (rate_numerator rate) ++ number_bytes 2 (rate_denominator rate)

-- a miss rate; one of 0 isn't spelled, and the tag says so
abbrev pub miss_bytes : Miss → List ℕ
miss_bytes miss =
    if miss_numerator miss == 0 then [] else number_bytes 1 (miss_numerator miss)
    ++ number_bytes 1 (miss_denominator miss)

abbrev pub bar_bytes : Bar → List ℕ
bar_bytes bar = number_bytes 2 (bar_numerator bar) ++ number_bytes 2 (bar_denominator bar)

-- an opening without its tag
abbrev pub opening_bytes : Opening → List ℕ
opening_bytes o =
    number_bytes 16 o.key.0 ++ number_bytes 4 o.search ++ name_bytes o.test ++ range_bytes o.range ++ rate_bytes o.rate
    ++ miss_bytes o.miss ++ bar_bytes o.bar ++ number_bytes 1 o.width ++ number_bytes 1 o.reruns

-- the tag of an opening, by whether a broken test may pass
abbrev pub opening_tag : Opening → ℕ
opening_tag o = if miss_numerator o.miss == 0 then OPENED_TAG else OPENED_WITH_MISS_TAG

-- the tag, which tells the kinds of entries apart
abbrev pub tag_of : What → ℕ
tag_of (Founded settings) = FOUNDED_TAG
tag_of (Opened o) = opening_tag o
tag_of (Leased key worker run search stage position deadline) = LEASED_TAG
tag_of (Reported run verdict _) = REPORTED_TAG
tag_of (Skipped run _) = SKIPPED_TAG
tag_of (Cancelled key search) = CANCELLED_TAG
tag_of (Ordered key agent order commit search day) = ORDERED_TAG
tag_of (Carried commit day) = CARRIED_TAG
tag_of Closed = CLOSED_TAG

-- what stands after the tag
abbrev pub fields_of : What → List ℕ
fields_of (Founded settings) = settings_bytes settings
fields_of (Opened o) = opening_bytes o
fields_of (Leased key worker run search stage position deadline) =
    number_bytes 16 key.0 ++ name_bytes worker ++ number_bytes 4 run ++ number_bytes 4 search
    ++ number_bytes 1 (stage_mark stage)
    ++ number_bytes 2 position ++ number_bytes 8 deadline
fields_of (Reported run verdict fate) =
    number_bytes 4 run ++ number_bytes 1 (verdict_mark verdict) ++ number_bytes 1 (fate_mark fate)
fields_of (Skipped run fate) = number_bytes 4 run ++ number_bytes 1 (skip_fate_mark fate)
fields_of (Cancelled key search) = number_bytes 16 key.0 ++ number_bytes 4 search
fields_of (Ordered key agent order commit search day) =
    number_bytes 16 key.0 ++ name_bytes agent ++ number_bytes 4 order ++ id_bytes commit ++ number_bytes 4 search
    ++ number_bytes 4 day
fields_of (Carried commit day) = id_bytes commit ++ number_bytes 4 day
fields_of Closed = []

-- an entry: its moment in milliseconds, its tag, its fields
abbrev pub entry_bytes : Entry → List ℕ
entry_bytes entry = number_bytes 8 (moment_ms entry.at) ++ number_bytes 1 (tag_of entry.what) ++ fields_of entry.what

-- entries, one after the other
abbrev pub spelling : List Entry → List ℕ
spelling entries = flat_map entry_bytes entries
