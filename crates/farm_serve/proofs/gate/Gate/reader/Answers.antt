use Rattle.std.proofs.Common.{subst}
use Rattle.atomic_table.specs.Seated.{TableId}
use Rattle.common_types.proofs.Prefixes.{IsPrefix-refl}
use Rattle.turn_lock.specs.Known.{IsReady}
use Rattle.farm_serve.proofs.Owners.{staked_same}
use Rattle.farm_serve.proofs.Steps.{serving_longer, serving_short}
use Rattle.farm_serve.proofs.gate.Gate.reader.Goals as goal

pub invariant_of-self : goal.invariant_of-self
invariant_of-self g c = (
  serving_short g.J.Naming.entry g.J.Naming.gives c.reader-made.new.pass c.self.inside.read c.self.inside.out.total
      c.self.inside.standing (g.N.Network.told c.self.inside.network) (g.N.Network.count c.self.inside.network)
      (serving_longer g.J.Naming.entry g.J.Naming.gives c.self.inside.held c.reader-made.new.pass c.self.inside.read
      c.self.inside.out.total
      c.self.inside.standing (g.N.Network.told c.self.inside.network) (g.N.Network.count c.self.inside.network)
      (subst (λ (l : TableId). IsReady l c.reader-made.new.pass) c.requires.farm c.reader-made.ensures.keeps.ready)
      record {
        longer = c.reader-made.ensures.keeps.longer;
        counted = IsPrefix-refl c.self.inside.read;
        more = c.reader-made.ensures.keeps.faults;
      }
      c.reader-made.ensures.keeps.rows c.reader-made.ensures.mine
      c.reader-made.ensures.look.stake c.self.invariant.0),
  c.self.invariant.1,
  staked_same g.J.Naming.entry c.self.inside.held c.reader-made.new.pass c.self.inside.out.total
      c.self.inside.standing.left c.reader-made.ensures.look.stake c.reader-made.ensures.keeps.places
      c.self.invariant.2,
)

pub invariant_of-self-else-is_err : goal.invariant_of-self-else-is_err
invariant_of-self-else-is_err g c = (
  serving_longer g.J.Naming.entry g.J.Naming.gives c.self.inside.held c.reader-made.new.pass c.self.inside.read
      c.self.inside.out.total
      c.self.inside.standing (g.N.Network.told c.self.inside.network) (g.N.Network.count c.self.inside.network)
      (subst (λ (l : TableId). IsReady l c.reader-made.new.pass) c.requires.farm c.reader-made.ensures.keeps.ready)
      record {
        longer = c.reader-made.ensures.keeps.longer;
        counted = IsPrefix-refl c.self.inside.read;
        more = c.reader-made.ensures.keeps.faults;
      }
      c.reader-made.ensures.keeps.rows c.reader-made.ensures.mine
      c.reader-made.ensures.look.stake c.self.invariant.0,
  c.self.invariant.1,
  staked_same g.J.Naming.entry c.self.inside.held c.reader-made.new.pass c.self.inside.out.total
      c.self.inside.standing.left c.reader-made.ensures.look.stake c.reader-made.ensures.keeps.places
      c.self.invariant.2,
)
