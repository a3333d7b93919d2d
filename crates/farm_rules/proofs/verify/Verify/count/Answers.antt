use Rattle.std.proofs.Common.{◌≡◌, ◌+◌, ⊎_elim, sym, ap, ◌∙◌}
use Rattle.farm_rules.specs.Verification.{Verification}
use Rattle.farm_rules.proofs.Rulings.{StandsFor-at_culprit, StandsFor-at_parent}
use Rattle.farm_rules.proofs.verify.Verify.count.Goals as goal

pub returns-then-position-self-clause-counted : goal.returns-then-position-self-clause-counted
returns-then-position-self-clause-counted c =
    rw (← c.self.view_is)
    (λ reruns stands. rw (c.is_against.ensures, ← c.self.view_is)
    (StandsFor-at_culprit _ reruns _ stands c.self.invariant.a_suspect c.if-position-self.true))

pub returns-else-position-self-clause-counted : goal.returns-else-position-self-clause-counted
returns-else-position-self-clause-counted c =
    let culprit_is : c.self.inside.culprit ≡ c.args.self.now.culprit = ap (λ (v : Verification). v.culprit) c.self.view_is in
    let below : c.args.position + 1 ≡ c.self.inside.culprit =
    ⊎_elim
    (λ (here : c.args.position ≡ c.args.self.now.culprit). absurd (c.if-position-self.false (here ∙ sym culprit_is)))
    (λ (under : c.args.position + 1 ≡ c.args.self.now.culprit). under ∙ sym culprit_is)
    c.requires.side in
    rw (← c.self.view_is)
    (λ reruns stands. rw (c.is_against.ensures, ← c.self.view_is) (StandsFor-at_parent _ reruns _ stands below))
