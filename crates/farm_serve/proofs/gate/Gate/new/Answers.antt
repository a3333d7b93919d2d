use Rattle.std.proofs.Common.{arith, sym, subst, ℕ}
use Rattle.farm_serve.proofs.Owners.{serving_start, staked_start}
use Rattle.farm_serve.specs.Serving.{IsStaked}
use Rattle.farm_serve.proofs.gate.Gate.new.Goals as goal

pub invariant_of-result : goal.invariant_of-result
invariant_of-result g c = (
  serving_start g.J.Naming.entry g.J.Naming.gives c.args.held c.args.read c.args.out.total c.args.links
      (g.N.Network.told c.args.network) (g.N.Network.count c.args.network) c.requires.ready c.requires.begins
      c.requires.told c.requires.count c.requires.links c.requires.none c.requires.mine c.requires.stake,
  c.requires.picked,
  subst (λ (n : ℕ). IsStaked g.J.Naming.entry c.args.held n c.args.links) (sym c.requires.none)
      (staked_start g.J.Naming.entry c.args.held c.args.links (omega arith) c.requires.stake c.requires.mine),
)
