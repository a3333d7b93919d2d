use Rattle.std.proofs.Common.{◌≡◌, List, Some, sym, ap, ◌∙◌}
use Rattle.farm_entry.specs.History.{lease_of}
use Rattle.farm_entry.specs.declared.entry.Entry.{Entry}
use Rattle.farm_entry.specs.declared.lease.LeasedRun.{LeasedRun}
use Rattle.farm_laws.proofs.Numbered.{lease-there}
use Rattle.farm_core.proofs.decision_report.report_decision.Goals as goal

pub fate_of-fate-requires : goal.fate_of-fate-requires
fate_of-fate-requires c =
    let H : List Entry = c.args.farm.now in
    let l : LeasedRun = c.in-Some.lease in
    let known : lease_of H c.args.run ≡ Some l = sym c.lease_of.ensures ∙ c.in-Some.is in
    ap (lease_of H) (lease-there H c.args.run l known).1 ∙ known
