use Rattle.std.proofs.Common.{List, ◌∙◌}
use Rattle.farm_entry.specs.declared.entry.Entry.{Entry}
use Rattle.farm_entry.specs.declared.lease.LeasedRun.{LeasedRun}
use Rattle.search_state.specs.SearchView.{SearchView}
use Rattle.farm_core.proofs.States.{skip_fate-told, state-of}
use Rattle.farm_core.proofs.decision_report.skip_fate_of.Goals as goal

pub returns-in-Some : goal.returns-in-Some
returns-in-Some c =
    let H : List Entry = c.args.farm.now in
    let l : LeasedRun = c.args.lease in
    let s : SearchView = c.in-Some.search.now in
    c.skip_fate.ensures ∙ skip_fate-told H l s (state-of H l.search s c.in-Some.ensures)
