-- The evidence of a search, found by the whole history: which reports are evidence is read off what the search came to.
use Rattle.std.specs.Prelude.{◌≡◌, ℕ, ◌==◌, Bool, false, ◌||◌, List, [], ◌∷◌, is_some, if◌then◌else◌, Option, Some, None}
use Rattle.std.specs.List.{cons_option}
use Rattle.std.specs.Option.{option_and_then}
use Rattle.weight_exact.specs.declared.run.Run.{Run}
use Rattle.farm_entry.specs.History.{all_leases, cancelled_in, is_counted, is_over, report_in, went_over}
use Rattle.farm_entry.specs.Legal.{IsLegal}
use Rattle.farm_entry.specs.Standing.{at_bar}
use Rattle.farm_entry.specs.declared.entry.Entry.{Entry}
use Rattle.farm_entry.specs.declared.entry.Fate.{Fate}
use Rattle.farm_entry.specs.declared.entry.What.{What}
use Rattle.farm_entry.specs.declared.lease.LeasedRun.{LeasedRun}
use Rattle.farm_entry.specs.declared.lease.ReportedRun.{ReportedRun}
use Rattle.farm_entry.specs.declared.opening.Opening.{Opening}
use Rattle.search_evidence.specs.Written.{reported_run}

-- these are all leases of a legal history
pub record AreLeases (H : List Entry) (leases : List LeasedRun) : Type 0 where
  pub legal : IsLegal H
  pub all : leases ≡ all_leases H

-- whether its runs ended a search: a report went over its budget, or a hypothesis is at the bar. Then the reports that
-- came late are evidence too, as whoever judges the runs anew ends with the same run
abbrev pub ended_by_runs : List Entry → Opening → Bool
ended_by_runs H o = went_over H o.search || is_some (at_bar H o)

-- whether a report didn't come late
abbrev pub is_timely : Fate → Bool
is_timely fate = is_counted fate || is_over fate

-- the run of a report that is evidence, by whether late ones are
abbrev pub kept_run : List Entry → (search : ℕ) → (late : Bool) → ReportedRun → Option Run
kept_run H search late r = if late || is_timely r.fate then reported_run H search r else None

-- whether a number is there and is this one
abbrev pub is_number : (search : ℕ) → Option ℕ → Bool
is_number search None = false
is_number search (Some other) = other == search

-- whether an entry cancels a search
abbrev pub cancels : (search : ℕ) → What → Bool
cancels search what = is_number search (cancelled_in what)

-- the runs of entries that are evidence, up to the cancellation of the search
abbrev pub kept_runs : List Entry → (search : ℕ) → (late : Bool) → List Entry → List Run
kept_runs H search late [] = []
kept_runs H search late (e ∷ more) =
    if cancels search e.what then []
    else cons_option (option_and_then (kept_run H search late) (report_in e.what)) (kept_runs H search late more)
