use Rattle.farm_serve.proofs.Steps.{serving_short}
use Rattle.farm_serve.proofs.gate.Gate.keep_reader.Goals as goal

pub invariant_of-self : goal.invariant_of-self
invariant_of-self g c = (
  serving_short g.J.Naming.entry g.J.Naming.gives c.self.inside.held c.self.inside.read c.self.inside.out.total
      c.self.inside.standing
      (g.N.Network.told c.self.inside.network) (g.N.Network.count c.self.inside.network) c.self.invariant.0,
  c.self.invariant.1,
  c.self.invariant.2,
)
