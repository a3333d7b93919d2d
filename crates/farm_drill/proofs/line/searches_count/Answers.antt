use Rattle.std.proofs.Common.{◌≡◌, ◌≤◌, length, ap, arith}
use Rattle.farm_entry.specs.History.{openings}
use Rattle.farm_entry.specs.declared.limits.TheConstants.{MAX_SEARCHES}
use Rattle.farm_entry.specs.declared.reply.Totals.{Totals}
use Rattle.farm_laws.proofs.Bounds.{openings-bounded}
use Rattle.farm_drill.proofs.line.searches_count.Goals as goal

pub overflow_cast-result : goal.overflow_cast-result
overflow_cast-result c =
    let few : length (openings c.args.store.now.history) ≤ MAX_SEARCHES =
    openings-bounded c.args.store.now.history c.history-history.ensures.legal in
    let same : c.totals.result.searches ≡ length (openings c.args.store.now.history) =
    ap (λ (t : Totals). t.searches) c.totals.ensures in
    omega arith
