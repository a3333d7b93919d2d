use Rattle.std.proofs.Common.{◌≡◌, List, subst}
use Rattle.std.specs.Prelude.{IfOk}
use Rattle.farm_entry.specs.Decision.{decide}
use Rattle.farm_entry.specs.declared.decision.Decision.{Decision}
use Rattle.farm_entry.specs.declared.entry.Entry.{Entry}
use Rattle.farm_core.proofs.Fronts.{all-history, legal-history}
use Rattle.farm_core.proofs.farm.Farm.decide.Goals as goal

pub returns-clause-decided : goal.returns-clause-decided
returns-clause-decided c =
    subst
    (λ (L : List Entry). IfOk c.decide.result (λ (found : Decision). found ≡ decide L c.args.command.now c.args.at))
    (all-history c.self.inside c.args.self.now c.self.view_is c.requires) c.decide.ensures

pub returns-clause-legal : goal.returns-clause-legal
returns-clause-legal c = legal-history c.self.inside c.args.self.now c.self.invariant c.self.view_is
