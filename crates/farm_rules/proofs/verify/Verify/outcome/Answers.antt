use Rattle.farm_rules.proofs.Rulings.{said-confirmed, said-open_at_culprit, said-open_at_parent}
use Rattle.farm_rules.proofs.verify.Verify.outcome.Goals as goal
use Rattle.farm_rules.proofs.verify.Verify.outcome.Goals.{else-self-2-via-then-self-2+else-self-3, else-self-2-via-else-self-2}

pub returns-then-self-3-clause-said : goal.returns-then-self-3-clause-said
returns-then-self-3-clause-said c =
    rw (← c.self.view_is) (λ reruns stands. said-confirmed _ reruns stands c.if-self.false c.if-self-2.true c.if-self-3.true)

pub returns-else-self-2-clause-said : goal.returns-else-self-2-clause-said
returns-else-self-2-clause-said c =
    rw (← c.self.view_is)
    (λ reruns stands. elim c.else-self-2.branch [
      | else-self-2-via-then-self-2+else-self-3 w ↦
          said-open_at_parent _ reruns stands c.if-self.false w.if-self-2.true w.if-self-3.false
      | else-self-2-via-else-self-2 w ↦ said-open_at_culprit _ reruns stands c.if-self.false w.if-self-2.false
    ])
