-- Which reports of a search are its evidence.
use Rattle.std.specs.Prelude.{ℕ, Bool, not, ◌&&◌, List, [], ◌∷◌, ◌++◌, if◌then◌else◌, Option, None}
use Rattle.std.specs.List.{cons_option}
use Rattle.std.specs.Option.{is_none, option_and_then}
use Rattle.farm_types.specs.declared.stage.Stage.TheVariants.{Search}
use Rattle.threshold_pick.specs.HiddenBlocks.{is_hidden}
use Rattle.weight_exact.specs.declared.run.Run.{Run}
use Rattle.farm_entry.specs.History.{lease_of, report_in, run_of, runs, skipped, was_cancelled, went_over}
use Rattle.farm_entry.specs.Setup.{setup_of}
use Rattle.farm_entry.specs.Standing.{at_bar}
use Rattle.farm_entry.specs.declared.entry.Entry.{Entry}
use Rattle.farm_entry.specs.declared.lease.ReportedRun.{ReportedRun}
use Rattle.farm_entry.specs.declared.opening.Opening.{Opening}

-- whether a search has ended because of what was skipped: no report went over its budget and no hypothesis is at the
-- bar, but hypotheses that no run can tell apart any more are at the bar together
abbrev pub ended_by_skips : List Entry → Opening → Bool
ended_by_skips H o =
    not (went_over H o.search) && is_none (at_bar H o) && is_hidden (setup_of o) (runs H o.search) (skipped H o.search)

-- whether a report of a search is evidence, by the entries before it. Whoever judges the runs anew knows of no
-- cancellation and of no skips, and would count what came behind such an end
abbrev pub is_evidence : (before : List Entry) → Opening → Bool
is_evidence H o = not (was_cancelled H o.search) && not (ended_by_skips H o)

-- the run of a report, where it is one that is to find the culprit of a search: it isn't a rerun
abbrev pub reported_run : List Entry → (search : ℕ) → ReportedRun → Option Run
reported_run H search r = option_and_then (run_of search Search r.verdict) (lease_of H r.run)

-- the run that an entry adds to the evidence of a search, by the entries before it
abbrev pub run_added : (before : List Entry) → Opening → Entry → Option Run
run_added H o e =
    if is_evidence H o then option_and_then (reported_run H o.search) (report_in e.what) else None

-- the runs that entries add to the evidence of a search, one after the other
abbrev pub runs_added : (before : List Entry) → Opening → List Entry → List Run
runs_added H o [] = []
runs_added H o (e ∷ more) = cons_option (run_added H o e) (runs_added (H ++ e ∷ []) o more)

-- the runs that are the evidence of a search, in the order of their reports
abbrev pub evidence_runs : List Entry → Opening → List Run
evidence_runs H o = runs_added [] o H
