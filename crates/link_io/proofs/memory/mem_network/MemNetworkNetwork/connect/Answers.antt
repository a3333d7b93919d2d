use Rattle.std.proofs.Common.{arith, refl, inl, inr, subst, ◌≡◌, []}
use Rattle.std.proofs.lemmas.Bool.Decides.{nat_tests}
use Rattle.std.proofs.lemmas.List.{nil_from_length}
use Rattle.link_io.specs.FaultPlan.{NextFails}
use Rattle.link_io.specs.MemNetwork.{NetworkInMemory}
use Rattle.link_io.proofs.memory.mem_network.MemNetworkNetwork.connect.Goals as goal
use Rattle.link_io.proofs.memory.mem_network.MemNetworkNetwork.connect.Goals.{then-fails-via-then-fails, then-fails-via-else-fails+then-is_empty}

pub returns-then-fails-clause-fails : goal.returns-then-fails-clause-fails
returns-then-fails-clause-fails c = (
  λ _. elim c.then-fails.branch [
    | then-fails-via-then-fails w ↦ inl (subst (λ (n : NetworkInMemory). NextFails n.plan) c.self.view_is
        (c.next_fails-fails.ensures.listed.0 w.if-fails.true))
    | then-fails-via-else-fails+then-is_empty w ↦ inr (subst (λ (n : NetworkInMemory). n.connects ≡ []) c.self.view_is
        (nil_from_length c.self.inside.connects.items (grind (arith, nat_tests, w.is_empty.ensures, w.if-is_empty.true))))
  ],
  λ _. refl,
)
