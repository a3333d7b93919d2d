use Rattle.std.proofs.Common.{◌≡◌, drop, find}
use Rattle.std.specs.Option.{option_and_then}
use Rattle.farm_entry.specs.History.{is_report_of}
use Rattle.farm_entry.specs.RunPages.{report_of, report_shown}
use Rattle.plain_history.proofs.reports.report_of.Given as goal

abbrev pub invariant-loop-entry : goal.invariant-loop-entry
invariant-loop-entry l =
    option_and_then report_shown (find (is_report_of l.run) (drop l.entry-index l.history)) ≡ report_of l.history l.run
