-- The runs of a search, as they are shown: who made them, when, and what came of each.
use Rattle.std.specs.Prelude.{ℕ, ◌-◌, ◌==◌, List, drop, find, take, if◌then◌else◌, Option, Some, None}
use Rattle.std.specs.List.{filter_map}
use Rattle.std.specs.Option.{option_and_then, option_map}
use Rattle.farm_types.specs.declared.moment.Moment.{Moment}
use Rattle.farm_entry.specs.History.{is_report_of}
use Rattle.farm_entry.specs.Setup.{commit_of}
use Rattle.farm_entry.specs.declared.entry.Entry.{Entry}
use Rattle.farm_entry.specs.declared.entry.What.{What}
use Rattle.farm_entry.specs.declared.entry.What.TheVariants.{Leased, Reported, Skipped}
use Rattle.farm_entry.specs.declared.limits.TheConstants.{PAGE_LINES}
use Rattle.farm_entry.specs.declared.opening.Opening.{Opening}
use Rattle.farm_entry.specs.declared.run_page.RunLine.{RunLine}
use Rattle.farm_entry.specs.declared.run_page.RunOutcome.{RunOutcome}
use Rattle.farm_entry.specs.declared.run_page.RunOutcome.TheVariants.{Tested, Untestable}
use Rattle.farm_entry.specs.declared.run_page.RunPage.{RunPage}
use Rattle.farm_entry.specs.declared.run_page.RunReport.{RunReport}

-- a page of a list: so many of its items at most, from the item with a number on, where they are numbered from 1
abbrev pub lines_from : {A : Type 0} → (from : ℕ) → List A → List A
lines_from from items = take PAGE_LINES (drop (from - 1) items)

-- what an entry reports of a run
abbrev pub outcome_in : What → Option RunOutcome
outcome_in (Reported run verdict fate) = Some (Tested verdict fate)
outcome_in (Skipped run fate) = Some (Untestable fate)
outcome_in _ = None

-- the report that an entry records, as it is shown
abbrev pub report_shown : Entry → Option RunReport
report_shown e = option_map (λ outcome. record { at = e.at; outcome = outcome }) (outcome_in e.what)

-- what was reported of a run
abbrev pub report_of : List Entry → (run : ℕ) → Option RunReport
report_of H run = option_and_then report_shown (find (is_report_of run) H)

-- the run that an entry hands out, where it is of a search
abbrev pub run_line : List Entry → Opening → Moment → What → Option RunLine
run_line H o at (Leased key worker run search stage position deadline) =
    if search == o.search then Some (record {
      run = run;
      stage = stage;
      position = position;
      commit = commit_of o position;
      worker = worker;
      leased = at;
      deadline = deadline;
      report = report_of H run;
    }) else None
run_line H o at _ = None

-- the runs of a search, in the order in which they were handed out
abbrev pub run_lines : List Entry → Opening → List RunLine
run_lines H o = filter_map (λ e. run_line H o e.at e.what) H

-- what is shown of the runs of a search from one on, the first being run 1 of it
abbrev pub runs_page : List Entry → (from : ℕ) → Opening → RunPage
runs_page H from o = record { search = o.search; from = from; runs = lines_from from (run_lines H o) }
