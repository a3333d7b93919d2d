use Rattle.std.proofs.Common.{length, ap, ◌∙◌, arith}
use Rattle.std.proofs.lemmas.List.{take_all}
use Rattle.farm_entry.specs.Pages.{totals}
use Rattle.farm_core.proofs.decisions.all_totals.Goals as goal

pub returns : goal.returns
returns c =
    c.totals_at.ensures
    ∙ ap totals
    (take_all (length c.history.result.now) c.args.farm.now (omega (arith, ap length c.history.ensures.history)))
