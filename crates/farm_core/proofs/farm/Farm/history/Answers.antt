use Rattle.farm_core.proofs.Fronts.{legal-history}
use Rattle.farm_core.proofs.farm.Farm.history.Goals as goal

pub returns-clause-legal : goal.returns-clause-legal
returns-clause-legal c = legal-history c.self.inside c.args.self.now c.self.invariant c.self.view_is
