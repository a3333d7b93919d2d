-- How the state of a search is told anew, entry by entry.
use Rattle.std.specs.Prelude.{◌≡◌, ℕ, ◌+◌, ◌-◌, ◌<◌, ◌==◌, List, [], ◌∷◌, ◌++◌, length, take, if◌then◌else◌, Option, Some, None}
use Rattle.farm_entry.specs.Decision.{run_with}
use Rattle.farm_entry.specs.History.{cancelled_in, lease_of, opening_in, report_in, skip_in}
use Rattle.farm_entry.specs.declared.entry.Entry.{Entry}
use Rattle.farm_entry.specs.declared.entry.What.{What}
use Rattle.farm_entry.specs.declared.lease.LeasedRun.{LeasedRun}
use Rattle.farm_entry.specs.declared.lease.ReportedRun.{ReportedRun}
use Rattle.farm_entry.specs.declared.lease.SkippedRun.{SkippedRun}
use Rattle.farm_entry.specs.declared.limits.TheConstants.{MAX_ENTRIES}
use Rattle.farm_laws.specs.Openings.{HasOpening}
use Rattle.farm_laws.specs.Steps.{IsAbout}
use Rattle.search_state.specs.SearchView.{IsPlaced, IsPlacedAt, SearchView, after_report, after_skip, cancelled, fate_in, skip_fate_in}

-- an entry is the last of a history
abbrev pub IsEnd : List Entry → Entry → Type 0
IsEnd H e = H ≡ take (length H - 1) H ++ e ∷ []

-- the last entry of a history may change the state of a search, that was opened before
pub record IsEndOf (H : List Entry) (search : ℕ) : Type 0 where
  pub last : Entry
  pub is_last : IsEnd H last
  pub opens_none : opening_in last.what ≡ None
  pub known : HasOpening (take (length H - 1) H) search
  pub about : IsAbout (take (length H - 1) H) last.what search

-- a search may take in a report of one of its runs
pub record MayTake (s : SearchView) (l : LeasedRun) (r : ReportedRun) : Type 0 where
  pub ruled : r.fate ≡ fate_in s l.stage (run_with l r.verdict)
  pub placed : IsPlaced s l.stage (run_with l r.verdict)
  pub few : length s.runs + length s.reruns < MAX_ENTRIES

-- a search may take in that the tree of one of its runs can't be tested
pub record MaySkip (s : SearchView) (l : LeasedRun) (r : SkippedRun) : Type 0 where
  pub ruled : r.fate ≡ skip_fate_in s l.stage
  pub placed : IsPlacedAt s l.stage l.position

-- a search after a report of a run with a lease, if it is one of its runs
abbrev pub told_run : (search : ℕ) → Option LeasedRun → ReportedRun → SearchView → SearchView
told_run search None r s = s
told_run search (Some l) r s =
    if l.search == search then after_report s l.stage (run_with l r.verdict) r.fate else s

-- the same where the tree of the run can't be tested
abbrev pub told_skip : (search : ℕ) → Option LeasedRun → SkippedRun → SearchView → SearchView
told_skip search None r s = s
told_skip search (Some l) r s = if l.search == search then after_skip s l.position r.fate else s

-- and after a cancellation, if it is its own
abbrev pub told_end : (search : ℕ) → Option ℕ → SearchView → SearchView
told_end search None s = s
told_end search (Some q) s = if q == search then cancelled s else s

abbrev pub told_rest : List Entry → (search : ℕ) → Option SkippedRun → Option ℕ → SearchView → SearchView
told_rest H search None end s = told_end search end s
told_rest H search (Some r) end s = told_skip search (lease_of H r.run) r s

abbrev pub told_part : List Entry → (search : ℕ) → Option ReportedRun → Option SkippedRun → Option ℕ → SearchView
    → SearchView
told_part H search None skip end s = told_rest H search skip end s
told_part H search (Some r) skip end s = told_run search (lease_of H r.run) r s

-- a search after an entry of a history
abbrev pub told : List Entry → (search : ℕ) → What → SearchView → SearchView
told H search what s = told_part H search (report_in what) (skip_in what) (cancelled_in what) s
