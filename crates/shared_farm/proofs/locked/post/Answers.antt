use Rattle.std.proofs.Common.{ap, sym, ◌∙◌}
use Rattle.farm_entry.specs.Pages.{totals}
use Rattle.shared_farm.proofs.locked.post.Goals as goal

pub post-requires-clause-totals : goal.post-requires-clause-totals
post-requires-clause-totals g c = c.totals.ensures ∙ ap totals (sym c.history.ensures.value)
