-- What a history holds: its searches, the runs that were handed out, their reports, the orders. Each list is in the
-- order of the entries.
use Rattle.std.specs.Prelude.{ℕ, ◌+◌, ◌==◌, ℤ, pos, Bool, true, false, ◌&&◌, List, [], ◌∷◌, filter, find, position, if◌then◌else◌, Option, Some, None}
use Rattle.std.specs.List.{filter_map, list_any}
use Rattle.std.specs.Option.{option_and_then, option_map, unwrap_or}
use Rattle.farm_rules.specs.Orders as rules
use Rattle.farm_types.specs.declared.key.Key.{Key}
use Rattle.farm_types.specs.declared.stage.Stage.{Stage}
use Rattle.farm_types.specs.declared.stage.Stage.TheVariants.{Search, Verify}
use Rattle.weight_exact.specs.declared.run.Run.{Run}
use Rattle.weight_exact.specs.declared.run.Verdict.{Verdict}
use Rattle.farm_entry.specs.Settings.{settings_daily, settings_lease_ms, settings_zone_minutes}
use Rattle.farm_entry.specs.declared.entry.Entry.{Entry}
use Rattle.farm_entry.specs.declared.entry.Fate.{Fate}
use Rattle.farm_entry.specs.declared.entry.Fate.TheVariants.{Counted, Over}
use Rattle.farm_entry.specs.declared.entry.SkipFate.{SkipFate}
use Rattle.farm_entry.specs.declared.entry.SkipFate.TheVariants.{Taken}
use Rattle.farm_entry.specs.declared.entry.What.{What}
use Rattle.farm_entry.specs.declared.entry.What.TheVariants.{Founded, Opened, Leased, Reported, Skipped, Cancelled, Ordered, Carried, Closed}
use Rattle.farm_entry.specs.declared.lease.LeasedRun.{LeasedRun}
use Rattle.farm_entry.specs.declared.lease.ReportedRun.{ReportedRun}
use Rattle.farm_entry.specs.declared.lease.SkippedRun.{SkippedRun}
use Rattle.farm_entry.specs.declared.opening.Opening.{Opening}
use Rattle.farm_entry.specs.declared.order_page.OrderLine.{OrderLine}
use Rattle.farm_entry.specs.declared.settings.Settings.{Settings}

-- What an entry holds.

abbrev pub settings_in : What → Option Settings
settings_in (Founded settings) = Some settings
settings_in _ = None

abbrev pub opening_in : What → Option Opening
opening_in (Opened opening) = Some opening
opening_in _ = None

abbrev pub lease_in : What → Option LeasedRun
lease_in (Leased key worker run search stage position deadline) =
    Some (record { run = run; search = search; stage = stage; position = position; deadline = deadline })
lease_in _ = None

abbrev pub report_in : What → Option ReportedRun
report_in (Reported run verdict fate) = Some (record { run = run; verdict = verdict; fate = fate })
report_in _ = None

abbrev pub skip_in : What → Option SkippedRun
skip_in (Skipped run fate) = Some (record { run = run; fate = fate })
skip_in _ = None

-- the run that was reported: with a verdict, or as one whose tree can't be tested
abbrev pub told_in : What → Option ℕ
told_in (Reported run verdict _) = Some run
told_in (Skipped run _) = Some run
told_in _ = None

-- the number of a search that was cancelled
abbrev pub cancelled_in : What → Option ℕ
cancelled_in (Cancelled key search) = Some search
cancelled_in _ = None

abbrev pub order_in : What → Option OrderLine
order_in (Ordered key agent order commit search day) =
    Some (record { order = order; agent = agent; commit = commit; search = search; day = day })
order_in _ = None

-- the order that it stands for, as the rules see it: one of this farm, or one that was carried over
abbrev pub ordered_in : What → Option rules.Ordered
ordered_in (Ordered key agent order commit search day) = Some (record { commit = commit; day = day })
ordered_in (Carried commit day) = Some (record { commit = commit; day = day })
ordered_in _ = None

-- the order that it carries over from a farm before
abbrev pub carried_in : What → Option rules.Ordered
carried_in (Carried commit day) = Some (record { commit = commit; day = day })
carried_in _ = None

-- whether it closes the farm
abbrev pub is_closing : What → Bool
is_closing Closed = true
is_closing _ = false

-- the key of the request that made it
abbrev pub key_in : What → Option Key
key_in (Founded settings) = None
key_in (Opened opening) = Some opening.key
key_in (Leased key worker run search stage position deadline) = Some key
key_in (Reported run verdict _) = None
key_in (Skipped run _) = None
key_in (Cancelled key search) = Some key
key_in (Ordered key agent order commit search day) = Some key
key_in (Carried commit day) = None
key_in Closed = None

-- What a history holds.

-- what it was founded with, which its first entry says
abbrev pub settings_of : List Entry → Option Settings
settings_of [] = None
settings_of (e ∷ H) = settings_in e.what

-- what it was founded with, in a legal history: how long a lease lasts, in milliseconds, how many orders a day may
-- have, and how far the zone of its days lies east of UTC, in minutes
abbrev pub lease_ms : List Entry → ℕ
lease_ms H = unwrap_or (option_map settings_lease_ms (settings_of H)) 0

abbrev pub daily_limit : List Entry → ℕ
daily_limit H = unwrap_or (option_map settings_daily (settings_of H)) 0

abbrev pub zone_minutes : List Entry → ℤ
zone_minutes H = unwrap_or (option_map settings_zone_minutes (settings_of H)) (pos 0)

abbrev pub openings : List Entry → List Opening
openings H = filter_map (λ e. opening_in e.what) H

abbrev pub all_leases : List Entry → List LeasedRun
all_leases H = filter_map (λ e. lease_in e.what) H

abbrev pub reports : List Entry → List ReportedRun
reports H = filter_map (λ e. report_in e.what) H

abbrev pub skips : List Entry → List SkippedRun
skips H = filter_map (λ e. skip_in e.what) H

-- the runs that were reported, with a verdict or not
abbrev pub told_runs : List Entry → List ℕ
told_runs H = filter_map (λ e. told_in e.what) H

abbrev pub cancellations : List Entry → List ℕ
cancellations H = filter_map (λ e. cancelled_in e.what) H

abbrev pub order_lines : List Entry → List OrderLine
order_lines H = filter_map (λ e. order_in e.what) H

-- whether the farm was closed
abbrev pub is_closed : List Entry → Bool
is_closed H = list_any (λ e. is_closing e.what) H

-- the search with a number
abbrev pub opening_numbered : List Entry → (search : ℕ) → Option Opening
opening_numbered H search = find (λ o. o.search == search) (openings H)

-- the lease of a run
abbrev pub lease_of : List Entry → (run : ℕ) → Option LeasedRun
lease_of H run = find (λ l. l.run == run) (all_leases H)

-- the leases of a search, at both stages
abbrev pub leases : List Entry → (search : ℕ) → List LeasedRun
leases H search = filter (λ l. l.search == search) (all_leases H)

-- whether a run was reported, with a verdict or as one whose tree can't be tested
abbrev pub is_reported : List Entry → (run : ℕ) → Bool
is_reported H run = list_any (λ told. told == run) (told_runs H)

-- whether two stages are the same
abbrev pub same_stage : Stage → Stage → Bool
same_stage Search Search = true
same_stage Verify Verify = true
same_stage _ _ = false

abbrev pub is_counted : Fate → Bool
is_counted Counted = true
is_counted _ = false

abbrev pub is_over : Fate → Bool
is_over Over = true
is_over _ = false

-- a lease's run with its verdict, where the lease is of a search at a stage
abbrev pub run_of : (search : ℕ) → Stage → Verdict → LeasedRun → Option Run
run_of search stage verdict l =
    if l.search == search && same_stage l.stage stage then Some (record { position = l.position; verdict = verdict }) else None

-- the run of a report that counts, where it is of a search at a stage
abbrev pub counted_run : List Entry → (search : ℕ) → Stage → ReportedRun → Option Run
counted_run H search stage r =
    if is_counted r.fate then option_and_then (run_of search stage r.verdict) (lease_of H r.run) else None

-- the runs that count for a search at a stage
abbrev pub counted : List Entry → (search : ℕ) → Stage → List Run
counted H search stage = filter_map (counted_run H search stage) (reports H)

-- the runs by which the belief of a search is made
abbrev pub runs : List Entry → (search : ℕ) → List Run
runs H search = counted H search Search

-- the reruns by which its culprit is verified
abbrev pub reruns : List Entry → (search : ℕ) → List Run
reruns H search = counted H search Verify

abbrev pub is_taken : SkipFate → Bool
is_taken Taken = true
is_taken _ = false

-- the position of a lease of a search
abbrev pub position_for : (search : ℕ) → LeasedRun → Option ℕ
position_for search l = if l.search == search then Some l.position else None

-- the position that a skip closes, where it was taken and is of a search
abbrev pub skipped_position : List Entry → (search : ℕ) → SkippedRun → Option ℕ
skipped_position H search r =
    if is_taken r.fate then option_and_then (position_for search) (lease_of H r.run) else None

-- the positions of a search whose trees can't be tested, in the order in which that was said. One may stand twice
abbrev pub skipped : List Entry → (search : ℕ) → List ℕ
skipped H search = filter_map (skipped_position H search) (skips H)

-- whether a lease is of a search
abbrev pub is_of_search : (search : ℕ) → Option LeasedRun → Bool
is_of_search search None = false
is_of_search search (Some l) = l.search == search

-- whether a report would have taken a search past its budget, which ended it
abbrev pub went_over : List Entry → (search : ℕ) → Bool
went_over H search = list_any (λ r. is_over r.fate && is_of_search search (lease_of H r.run)) (reports H)

-- whether a search was cancelled
abbrev pub was_cancelled : List Entry → (search : ℕ) → Bool
was_cancelled H search = list_any (λ cancelled. cancelled == search) (cancellations H)

-- whether an entry is a lease of a search
abbrev pub is_lease_for : (search : ℕ) → Entry → Bool
is_lease_for search e = is_of_search search (lease_in e.what)

-- the place of the last entry that passes a test, where the list begins at a place; else the place found before it
abbrev pub last_place : (Entry → Bool) → (place found : ℕ) → List Entry → ℕ
last_place test place found [] = found
last_place test place found (e ∷ H) = last_place test (place + 1) (if test e then place else found) H

-- the place of a search's last lease, or 0, where no lease can stand, if it was never leased
abbrev pub last_lease : List Entry → (search : ℕ) → ℕ
last_lease H search = last_place (is_lease_for search) 0 0 H

-- whether a key is there and is this one
abbrev pub is_key : Key → Option Key → Bool
is_key key None = false
is_key key (Some other) = other.0 == key.0

-- whether an entry holds a key
abbrev pub has_key : Key → Entry → Bool
has_key key e = is_key key (key_in e.what)

-- the place of the entry that holds a key
abbrev pub place_of_key : List Entry → Key → Option ℕ
place_of_key H key = position (has_key key) H

-- whether a number is there and is that of a run
abbrev pub is_of_run : (run : ℕ) → Option ℕ → Bool
is_of_run run None = false
is_of_run run (Some told) = told == run

-- whether an entry is the report of a run, with a verdict or not
abbrev pub is_report_of : (run : ℕ) → Entry → Bool
is_report_of run e = is_of_run run (told_in e.what)

-- the place of the report of a run
abbrev pub place_of_report : List Entry → (run : ℕ) → Option ℕ
place_of_report H run = position (is_report_of run) H
