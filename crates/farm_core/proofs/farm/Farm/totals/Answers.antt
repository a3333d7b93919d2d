use Rattle.std.proofs.Common.{ap, ◌∙◌}
use Rattle.farm_entry.specs.Pages.{totals}
use Rattle.farm_core.specs.FarmView.{FarmView}
use Rattle.farm_core.proofs.farm.Farm.totals.Goals as goal

pub returns : goal.returns
returns c = c.totals_at.ensures ∙ ap (λ (v : FarmView). totals v.history) c.self.view_is
