use Rattle.std.proofs.Common.{ap, ◌∙◌}
use Rattle.farm_entry.specs.History.{is_closed}
use Rattle.farm_core.proofs.Fronts.{all-history}
use Rattle.farm_core.proofs.farm.Farm.is_closed.Goals as goal

pub returns : goal.returns
returns c =
    c.is_closed.ensures ∙ ap is_closed (all-history c.self.inside c.args.self.now c.self.view_is c.requires)
