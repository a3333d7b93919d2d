use Rattle.std.proofs.Common.{◌≡◌, List, Some, sym, ap, subst, ◌∙◌}
use Rattle.farm_entry.specs.History.{lease_of}
use Rattle.farm_entry.specs.Legal.{IsLegal}
use Rattle.farm_entry.specs.declared.entry.Entry.{Entry}
use Rattle.farm_entry.specs.declared.lease.LeasedRun.{LeasedRun}
use Rattle.farm_state.proofs.Popping.{end-known, end-last, end-reports}
use Rattle.farm_state.proofs.state.FarmState.pop_report.Goals as goal

pub unreachable-requires : goal.unreachable-requires
unreachable-requires c =
    let H : List Entry = c.args.self.now in
    let q = c.requires.reports in
    let legal : IsLegal H = subst IsLegal c.self.view_is c.self.invariant.legal in
    let it = end-known H _ q.0 c.args.run (end-last H q.0 legal c.requires.some q.1) q.2 in
    c.in_default.not-Some it.0
    (c.lease_of.ensures ∙ ap (λ (X : List Entry). lease_of X c.args.run) c.self.view_is ∙ it.2)

pub pop_about-requires-clause-about : goal.pop_about-requires-clause-about
pop_about-requires-clause-about c =
    let H : List Entry = c.args.self.now in
    let q = c.requires.reports in
    let l : LeasedRun = c.in-Some.lease in
    let legal : IsLegal H = subst IsLegal c.self.view_is c.self.invariant.legal in
    let known : lease_of H c.args.run ≡ Some l =
    ap (λ (X : List Entry). lease_of X c.args.run) (sym c.self.view_is)
    ∙ sym c.lease_of.ensures
    ∙ c.in-Some.is in
    end-reports H q.0 c.args.run l (end-last H q.0 legal c.requires.some q.1) q.2 known
