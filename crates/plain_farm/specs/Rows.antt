-- What is kept of each search of a history while the history is gone through: plain values, each of which is what a
-- definition of the farm gives.
use Rattle.std.specs.Prelude.{◌≡◌, ℕ, true, ◌+◌, ◌<◌, ◌≤◌, ◌&&◌, not, if◌then◌else◌, List, [], ◌∷◌, ◌++◌, length, filter, get_or, Contains, Option, Some, None}
use Rattle.farm_types.specs.declared.stage.Stage.{Stage}
use Rattle.threshold_pick.specs.Open.{open_plan}
use Rattle.weight_exact.specs.declared.run.Run.{Run}
use Rattle.farm_entry.specs.Decision.{run_with}
use Rattle.farm_entry.specs.History.{is_counted, is_reported, is_taken, last_lease, lease_of, leases, openings, report_in, reruns, runs, same_stage, skip_in, skipped, was_cancelled, went_over}
use Rattle.farm_entry.specs.Legal.{IsLegal}
use Rattle.farm_entry.specs.Setup.{setup_of}
use Rattle.farm_entry.specs.Standing.{standing}
use Rattle.farm_entry.specs.declared.entry.Entry.{Entry}
use Rattle.farm_entry.specs.declared.lease.LeasedRun.{LeasedRun}
use Rattle.farm_entry.specs.declared.lease.ReportedRun.{ReportedRun}
use Rattle.farm_entry.specs.declared.lease.SkippedRun.{SkippedRun}
use Rattle.farm_entry.specs.declared.opening.Opening.{Opening}
use Rattle.farm_entry.specs.declared.standing.Standing.TheVariants.{Cancelled as Ended, Searching}
use Rattle.plain_farm.specs.declared.rows.Row.{Row}

-- the leases of a search whose runs have no report, in the order of the runs
abbrev pub unreported : List Entry → (search : ℕ) → List LeasedRun
unreported H search = filter (λ l. not (is_reported H l.run)) (leases H search)

-- a row says of a search's runs, and of where it stands, what a history says
pub record IsTold (H : List Entry) (o : Opening) (row : Row) : Type 0 where
  pub told : row.runs.items ≡ runs H o.search
  pub again : row.reruns.items ≡ reruns H o.search
  pub skips : row.skipped.items ≡ skipped H o.search
  pub cancelled : row.cancelled ≡ was_cancelled H o.search
  pub over : row.over ≡ went_over H o.search
  pub stands : row.standing ≡ standing H o
  pub planned : standing H o ≡ Searching
      → row.plan.items ≡ open_plan (setup_of o) (runs H o.search) (skipped H o.search) o.width

-- and of its leases
pub record IsOut (H : List Entry) (search : ℕ) (row : Row) : Type 0 where
  pub waiting : row.unreported.items ≡ unreported H search
  pub last : row.last_lease ≡ last_lease H search

pub record IsRow (H : List Entry) (o : Opening) (row : Row) : Type 0 where
  pub told : IsTold H o row
  pub out : IsOut H o.search row

-- Each row that is kept says of the search at its number what a history says: the first row is of search 1. There may
-- be fewer rows than searches, or none
pub record AreRows (H : List Entry) (rows : List Row) : Type 0 where
  pub few : length rows ≤ length (openings H)
  pub told : (o : Opening) (i : ℕ) (row : Row) → Contains (openings H) o → i + 1 ≡ o.search → i < length rows
      → row ≡ get_or rows i row → IsTold H o row
  pub out : (i : ℕ) (row : Row) → i < length rows → row ≡ get_or rows i row → IsOut H (i + 1) row

-- an entry is the last of a legal history, and the rows are those of the entries before it
pub record IsStep (longer : List Entry) (e : Entry) (rows : List Row) : Type 0 where
  pub before : List Entry
  pub whole : longer ≡ before ++ e ∷ []
  pub legal_before : IsLegal before
  pub legal : IsLegal longer
  pub kept : AreRows before rows

-- the run of a report that counts, where its lease is of a stage
abbrev pub told_run : Stage → LeasedRun → ReportedRun → Option Run
told_run stage l r = if is_counted r.fate && same_stage l.stage stage then Some (run_with l r.verdict) else None

-- the last entry of a legal history reports a run of a search, and this row was kept of the search before it
pub record IsToldOf (longer : List Entry) (o : Opening) (row : Row) (l : LeasedRun) (r : ReportedRun) : Type 0 where
  pub before : List Entry
  pub last : Entry
  pub whole : longer ≡ before ++ last ∷ []
  pub legal_before : IsLegal before
  pub legal : IsLegal longer
  pub reported : report_in last.what ≡ Some r
  pub leased : lease_of before r.run ≡ Some l
  pub of_search : l.search ≡ o.search
  pub opened : Contains (openings before) o
  pub kept : IsRow before o row

-- the position that a skip closes, where it was taken
abbrev pub closed_position : LeasedRun → SkippedRun → Option ℕ
closed_position l r = if is_taken r.fate then Some l.position else None

-- the last entry of a legal history skips a run of a search, and this row was kept of the search before it
pub record IsSkipOf (longer : List Entry) (o : Opening) (row : Row) (l : LeasedRun) (r : SkippedRun) : Type 0 where
  pub before : List Entry
  pub last : Entry
  pub whole : longer ≡ before ++ last ∷ []
  pub legal_before : IsLegal before
  pub legal : IsLegal longer
  pub reported : skip_in last.what ≡ Some r
  pub leased : lease_of before r.run ≡ Some l
  pub of_search : l.search ≡ o.search
  pub opened : Contains (openings before) o
  pub kept : IsRow before o row

-- the row of a search with one lease more
pub record IsLeasedRow (old new : Row) (l : LeasedRun) (place : ℕ) : Type 0 where
  pub told : new.runs.items ≡ old.runs.items
  pub again : new.reruns.items ≡ old.reruns.items
  pub skips : new.skipped.items ≡ old.skipped.items
  pub cancelled : new.cancelled ≡ old.cancelled
  pub over : new.over ≡ old.over
  pub stands : new.standing ≡ old.standing
  pub planned : new.plan.items ≡ old.plan.items
  pub waiting : new.unreported.items ≡ old.unreported.items ++ l ∷ []
  pub last : new.last_lease ≡ place

-- the row of a search that is cancelled
pub record IsCancelledRow (old new : Row) : Type 0 where
  pub told : new.runs.items ≡ old.runs.items
  pub again : new.reruns.items ≡ old.reruns.items
  pub skips : new.skipped.items ≡ old.skipped.items
  pub cancelled : new.cancelled ≡ true
  pub over : new.over ≡ old.over
  pub stands : new.standing ≡ Ended
  pub waiting : new.unreported.items ≡ old.unreported.items
  pub last : new.last_lease ≡ old.last_lease
