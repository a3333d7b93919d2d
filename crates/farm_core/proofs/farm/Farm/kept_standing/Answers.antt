use Rattle.std.proofs.Common.{◌≡◌, List, subst}
use Rattle.std.specs.Option.{option_map}
use Rattle.farm_entry.specs.History.{opening_numbered}
use Rattle.farm_entry.specs.Standing.{standing}
use Rattle.farm_entry.specs.declared.entry.Entry.{Entry}
use Rattle.farm_core.proofs.Fronts.{all-history}
use Rattle.farm_core.proofs.farm.Farm.kept_standing.Goals as goal

pub returns : goal.returns
returns c =
    subst (λ (L : List Entry). c.standing_of.result ≡ option_map (standing L) (opening_numbered L c.args.search))
    (all-history c.self.inside c.args.self.now c.self.view_is c.requires) c.standing_of.ensures
