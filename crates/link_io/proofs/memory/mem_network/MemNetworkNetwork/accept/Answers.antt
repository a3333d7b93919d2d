use Rattle.std.proofs.Common.{refl, subst}
use Rattle.link_io.specs.FaultPlan.{NextFails}
use Rattle.link_io.specs.MemNetwork.{NetworkInMemory}
use Rattle.link_io.proofs.memory.mem_network.MemNetworkNetwork.accept.Goals as goal

pub returns-then-next_fails-clause-fails : goal.returns-then-next_fails-clause-fails
returns-then-next_fails-clause-fails c = (
  λ _. subst (λ (n : NetworkInMemory). NextFails n.plan) c.self.view_is
      (c.next_fails.ensures.listed.0 c.if-next_fails.true),
  λ _. refl,
)
