-- Reading from the front of some bytes: a value and the bytes after it, or nothing where they begin with no spelling
-- of one.
use Rattle.std.specs.Prelude.{ℕ, zero, suc, ◌==◌, nat_lt, Bool, true, false, List, [], ◌∷◌, length, take, drop, if◌then◌else◌, Option, Some, None}
use Rattle.byteorder.specs.Endian.{big_number}
use Rattle.flake_rate.specs.declared.bar.Bar.{Bar}
use Rattle.flake_rate.specs.declared.miss.Miss.{Miss}
use Rattle.flake_rate.specs.declared.rate.Rate.{Rate}
use Rattle.farm_types.specs.declared.commit_id.CommitId.{CommitId}
use Rattle.farm_types.specs.declared.commit_id.TheConstants.{ID_BYTES}
use Rattle.farm_types.specs.declared.key.Key.{Key}
use Rattle.farm_types.specs.declared.moment.Moment.{Moment}
use Rattle.farm_types.specs.declared.stage.Stage.{Stage}
use Rattle.suspect_range.specs.Range.{RangeView}
use Rattle.suspect_range.specs.declared.suspect.Suspect.{Suspect}
use Rattle.weight_exact.specs.declared.run.Verdict.{Verdict}
use Rattle.farm_entry.specs.Ask.{bar_of}
use Rattle.farm_entry.specs.declared.entry.Entry.{Entry}
use Rattle.farm_entry.specs.declared.entry.Fate.{Fate}
use Rattle.farm_entry.specs.declared.entry.SkipFate.{SkipFate}
use Rattle.farm_entry.specs.declared.entry.What.{What}
use Rattle.farm_entry.specs.declared.entry.What.TheVariants.{Founded, Opened, Leased, Reported, Skipped, Cancelled, Ordered, Carried, Closed}
use Rattle.weight_exact.specs.declared.limits.TheConstants.{MAX_WIDTH}
use Rattle.farm_entry.specs.declared.limits.TheConstants.{MAX_RERUNS}
use Rattle.farm_entry.specs.declared.opening.Opening.{Opening}
use Rattle.farm_entry.specs.declared.settings.Settings.{Settings}
use Rattle.entry_codec.specs.Values.{fate_of, fitting_miss, id_of, lowest_miss, lowest_rate, moment_of, name_of, range_of, settings_of, skip_fate_of, stage_of, up_to, verdict_of}
use Rattle.entry_codec.specs.declared.marks.TheConstants.{CANCELLED_TAG, CARRIED_TAG, CLOSED_TAG, FOUNDED_TAG, LEASED_TAG, OPENED_TAG, OPENED_WITH_MISS_TAG, ORDERED_TAG, REPORTED_TAG, SKIPPED_TAG}

-- what is read of some bytes, and what is made of that
infixl 10 ◌>>=◌
abbrev pub ◌>>=◌ : {A B : Type 0} → Option A → (A → Option B) → Option B
None >>= f = None
(Some x) >>= f = f x

-- so many bytes
unfoldable pub bytes_at : (count : ℕ) → List ℕ → Option (List ℕ × List ℕ)
bytes_at count bytes = if nat_lt (length bytes) count then None else Some (take count bytes, drop count bytes)

-- a number of so many bytes
unfoldable pub number_at : (count : ℕ) → List ℕ → Option (ℕ × List ℕ)
number_at count bytes = if nat_lt (length bytes) count then None else Some (
  big_number count (take count bytes),
  drop count bytes,
)

-- a value that is made of another one, where it is one
abbrev pub made_of : {A B : Type 0} → (A → Option B) → A × List ℕ → Option (B × List ℕ)
made_of make read = do
  value ← make read.0
  Some (value, read.1)

unfoldable pub key_at : List ℕ → Option (Key × List ℕ)
key_at bytes = do
  number ← number_at 16 bytes
  Some (record { 0 = number.0 }, number.1)

unfoldable pub moment_at : List ℕ → Option (Moment × List ℕ)
moment_at bytes = do
  ms ← number_at 8 bytes
  made_of moment_of ms

unfoldable pub id_at : List ℕ → Option (CommitId × List ℕ)
id_at bytes = do
  id ← bytes_at ID_BYTES bytes
  made_of id_of id

unfoldable pub name_at : List ℕ → Option (List ℕ × List ℕ)
name_at bytes = do
  count ← number_at 1 bytes
  text ← bytes_at count.0 count.1
  made_of name_of text

unfoldable pub stage_at : List ℕ → Option (Stage × List ℕ)
stage_at bytes = do
  mark ← number_at 1 bytes
  made_of stage_of mark

unfoldable pub verdict_at : List ℕ → Option (Verdict × List ℕ)
verdict_at bytes = do
  mark ← number_at 1 bytes
  made_of verdict_of mark

unfoldable pub fate_at : List ℕ → Option (Fate × List ℕ)
fate_at bytes = do
  mark ← number_at 1 bytes
  made_of fate_of mark

unfoldable pub skip_fate_at : List ℕ → Option (SkipFate × List ℕ)
skip_fate_at bytes = do
  mark ← number_at 1 bytes
  made_of skip_fate_of mark

unfoldable pub settings_at : List ℕ → Option (Settings × List ℕ)
settings_at bytes = do
  lease_ms ← number_at 4 bytes
  daily ← number_at 2 lease_ms.1
  zone ← number_at 2 daily.1
  made_of (settings_of lease_ms.0 daily.0) zone

unfoldable pub suspect_at : List ℕ → Option (Suspect × List ℕ)
suspect_at bytes = do
  commit ← id_at bytes
  weight ← number_at 2 commit.1
  Some (record { commit = commit.0; weight = weight.0 }, weight.1)

-- so many suspects
unfoldable pub suspects_at : (count : ℕ) → List ℕ → Option (List Suspect × List ℕ)
suspects_at zero bytes = Some ([], bytes)
suspects_at (suc count) bytes = do
  first ← suspect_at bytes
  others ← suspects_at count first.1
  Some (first.0 ∷ others.0, others.1)

unfoldable pub range_at : List ℕ → Option (RangeView × List ℕ)
range_at bytes = do
  base ← id_at bytes
  calm ← number_at 4 base.1
  count ← number_at 2 calm.1
  suspects ← suspects_at count.0 count.1
  made_of (range_of base.0 calm.0) suspects

unfoldable pub rate_at : List ℕ → Option (Rate × List ℕ)
rate_at bytes = do
  a ← number_at 2 bytes
  b ← number_at 2 a.1
  made_of (lowest_rate a.0) b

-- the miss rate of an opening with a flake rate: 0, which isn't spelled, or one above it
unfoldable pub miss_at : (above_zero : Bool) → Rate → List ℕ → Option (Miss × List ℕ)
miss_at false rate bytes = made_of (lowest_miss 0) (1, bytes)
miss_at true rate bytes = do
  c ← number_at 1 bytes
  d ← number_at 1 c.1
  made_of (fitting_miss rate c.0) d

unfoldable pub bar_at : List ℕ → Option (Bar × List ℕ)
bar_at bytes = do
  t ← number_at 2 bytes
  u ← number_at 2 t.1
  made_of (bar_of t.0) u

-- a number from 1 to a limit, in one byte
unfoldable pub up_to_at : (limit : ℕ) → List ℕ → Option (ℕ × List ℕ)
up_to_at limit bytes = do
  number ← number_at 1 bytes
  made_of (up_to limit) number

-- the rules of a search, over its range
unfoldable pub opening_at : (above_zero : Bool) → List ℕ → Option (Opening × List ℕ)
opening_at above_zero bytes = do
  key ← key_at bytes
  search ← number_at 4 key.1
  test ← name_at search.1
  range ← range_at test.1
  rate ← rate_at range.1
  miss ← miss_at above_zero rate.0 rate.1
  bar ← bar_at miss.1
  width ← up_to_at MAX_WIDTH bar.1
  reruns ← up_to_at MAX_RERUNS width.1
  Some (
    record {
      key = key.0;
      search = search.0;
      test = test.0;
      range = range.0;
      rate = rate.0;
      miss = miss.0;
      bar = bar.0;
      width = width.0;
      reruns = reruns.0;
    },
    reruns.1,
  )

-- What stands after each tag.

unfoldable pub founded_at : List ℕ → Option (What × List ℕ)
founded_at bytes = do
  settings ← settings_at bytes
  Some (Founded settings.0, settings.1)

unfoldable pub opened_at : (above_zero : Bool) → List ℕ → Option (What × List ℕ)
opened_at above_zero bytes = do
  opening ← opening_at above_zero bytes
  Some (Opened opening.0, opening.1)

unfoldable pub leased_at : List ℕ → Option (What × List ℕ)
leased_at bytes = do
  key ← key_at bytes
  worker ← name_at key.1
  run ← number_at 4 worker.1
  search ← number_at 4 run.1
  stage ← stage_at search.1
  position ← number_at 2 stage.1
  deadline ← number_at 8 position.1
  Some (Leased key.0 worker.0 run.0 search.0 stage.0 position.0 deadline.0, deadline.1)

unfoldable pub reported_at : List ℕ → Option (What × List ℕ)
reported_at bytes = do
  run ← number_at 4 bytes
  verdict ← verdict_at run.1
  fate ← fate_at verdict.1
  Some (Reported run.0 verdict.0 fate.0, fate.1)

unfoldable pub skipped_at : List ℕ → Option (What × List ℕ)
skipped_at bytes = do
  run ← number_at 4 bytes
  fate ← skip_fate_at run.1
  Some (Skipped run.0 fate.0, fate.1)

unfoldable pub cancelled_at : List ℕ → Option (What × List ℕ)
cancelled_at bytes = do
  key ← key_at bytes
  search ← number_at 4 key.1
  Some (Cancelled key.0 search.0, search.1)

unfoldable pub ordered_at : List ℕ → Option (What × List ℕ)
ordered_at bytes = do
  key ← key_at bytes
  agent ← name_at key.1
  order ← number_at 4 agent.1
  commit ← id_at order.1
  search ← number_at 4 commit.1
  day ← number_at 4 search.1
  Some (Ordered key.0 agent.0 order.0 commit.0 search.0 day.0, day.1)

unfoldable pub carried_at : List ℕ → Option (What × List ℕ)
carried_at bytes = do
  commit ← id_at bytes
  day ← number_at 4 commit.1
  Some (Carried commit.0 day.0, day.1)

-- (a closing has no fields)
unfoldable pub closed_at : List ℕ → Option (What × List ℕ)
closed_at bytes = Some (Closed, bytes)

-- what stands after a tag
unfoldable pub what_at : (tag : ℕ) → List ℕ → Option (What × List ℕ)
what_at tag bytes =
    if tag == FOUNDED_TAG then founded_at bytes
    else if tag == OPENED_TAG then opened_at false bytes
    else if tag == LEASED_TAG then leased_at bytes
    else if tag == REPORTED_TAG then reported_at bytes
    else if tag == CANCELLED_TAG then cancelled_at bytes
    else if tag == ORDERED_TAG then ordered_at bytes
    else if tag == OPENED_WITH_MISS_TAG then opened_at true bytes
    else if tag == SKIPPED_TAG then skipped_at bytes
    else if tag == CLOSED_TAG then closed_at bytes
    else if tag == CARRIED_TAG then carried_at bytes
    else None

unfoldable pub entry_at : List ℕ → Option (Entry × List ℕ)
entry_at bytes = do
  at ← moment_at bytes
  tag ← number_at 1 at.1
  what ← what_at tag.0 tag.1
  Some (record { at = at.0; what = what.0 }, what.1)
