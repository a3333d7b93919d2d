use Rattle.std.proofs.Common.{string_bytes, ap, ◌∙◌}
use Rattle.farm_disk.specs.Images.{DiskState}
use Rattle.farm_entry.specs.Pages.{totals}
use Rattle.farm_entry.specs.declared.reply.Totals.{Totals}
use Rattle.farm_store.specs.State.{StoreState}
use Rattle.farm_drill.proofs.Counts.{line-of}
use Rattle.farm_drill.proofs.line.drill_line.Goals as goal

pub returns-clause-line : goal.returns-clause-line
returns-clause-line c =
    let kept = ap (λ (s : StoreState DiskState). (totals s.history).orders) c.count_standings-tally.ensures.kept in
    line-of c.args.store.now.history (string_bytes c.in_ok-format.field-0) c.searches_count-searches.result
    c.count_standings-tally.result
    c.totals.result.orders c.in_ok-format.ensures.ok c.searches_count-searches.ensures.count c.count_standings-tally.ensures.tally
    (ap (λ (t : Totals). t.orders) c.totals.ensures ∙ kept)
