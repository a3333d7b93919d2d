use Rattle.std.proofs.Common.{◌≡◌, List, sym, ap, subst, ◌∙◌}
use Rattle.farm_types.specs.Moment.{moment_ms}
use Rattle.farm_types.specs.declared.moment.Moment.{Moment}
use Rattle.farm_entry.specs.Decision.{moment_used}
use Rattle.farm_entry.specs.declared.entry.Entry.{Entry}
use Rattle.farm_laws.specs.Laws.{IsNotBefore}
use Rattle.farm_core.proofs.Moments.{used-not_before}
use Rattle.farm_core.proofs.decisions.decision_on_other.Goals as goal

pub own_decision-requires-clause-not_before : goal.own_decision-requires-clause-not_before
own_decision-requires-clause-not_before c =
    let H : List Entry = c.args.farm.now in
    let used : c.moment_used.result ≡ moment_used H c.args.at =
    c.moment_used.ensures ∙ ap (λ (X : List Entry). moment_used X c.args.at) c.history-history.ensures.history in
    subst (λ (m : Moment). IsNotBefore H (moment_ms m)) (sym used)
    (used-not_before H c.args.at c.history-history.ensures.legal)
