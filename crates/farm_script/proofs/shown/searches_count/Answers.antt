use Rattle.std.proofs.Common.{ap, arith}
use Rattle.farm_entry.specs.declared.reply.Totals.{Totals}
use Rattle.farm_laws.proofs.Bounds.{openings-bounded}
use Rattle.farm_script.proofs.shown.searches_count.Goals as goal

pub overflow_cast-result : goal.overflow_cast-result
overflow_cast-result g c =
    omega (
      arith,
      ap (λ (t : Totals). t.searches) c.totals.ensures,
      openings-bounded c.args.store.now.history c.history-history.ensures.legal,
    )
