use Rattle.std.proofs.Common.{List, sym, ap, subst, ◌∙◌}
use Rattle.farm_entry.specs.declared.entry.Entry.{Entry}
use Rattle.farm_entry.specs.declared.lease.LeasedRun.{LeasedRun}
use Rattle.search_state.specs.SearchView.{IsPlaced, SearchView, fate_in}
use Rattle.farm_core.proofs.States.{fate-told, run-fits, state-of}
use Rattle.farm_core.proofs.decision_report.fate_of.Goals as goal

pub fate-requires : goal.fate-requires
fate-requires c =
    let H : List Entry = c.args.farm.now in
    let l : LeasedRun = c.args.lease in
    let s : SearchView = c.in-Some.search.now in
    subst (IsPlaced s l.stage) (sym c.run_with.ensures)
    (run-fits H l c.args.verdict s c.history-history.ensures.legal c.requires (state-of H l.search s c.in-Some.ensures))

pub returns-in-Some : goal.returns-in-Some
returns-in-Some c =
    let H : List Entry = c.args.farm.now in
    let l : LeasedRun = c.args.lease in
    let s : SearchView = c.in-Some.search.now in
    c.fate.ensures
    ∙ ap (fate_in s l.stage) c.run_with.ensures
    ∙ fate-told H l c.args.verdict s (state-of H l.search s c.in-Some.ensures)
