use Rattle.std.proofs.Common.{◌↔◌, Bool, List, subst}
use Rattle.std.specs.Prelude.{IfOk, IsTrue}
use Rattle.farm_entry.specs.Legal.{IsNext}
use Rattle.farm_entry.specs.declared.entry.Entry.{Entry}
use Rattle.farm_core.proofs.Fronts.{all-history, legal-history}
use Rattle.farm_core.proofs.farm.Farm.is_next.Goals as goal

pub returns-clause-next : goal.returns-clause-next
returns-clause-next c =
    subst (λ (L : List Entry). IfOk c.is_next.result (λ (next : Bool). IsTrue next ↔ IsNext L c.args.entry.now))
    (all-history c.self.inside c.args.self.now c.self.view_is c.requires) c.is_next.ensures

pub returns-clause-legal : goal.returns-clause-legal
returns-clause-legal c = legal-history c.self.inside c.args.self.now c.self.invariant c.self.view_is
