use Rattle.std.proofs.Common.{ℕ, ◌-◌, List, reverse, ap, ◌∙◌}
use Rattle.weight_exact.specs.declared.run.Run.{Run}
use Rattle.farm_rules.specs.Due.{due_verify}
use Rattle.farm_rules.specs.Reruns.{reruns_at}
use Rattle.search_state.specs.SearchView.{SearchView, position_verifying}
use Rattle.search_state.proofs.Verified.{at-culprit, at-parent, kept-verification, kept-verifying, verified-low}
use Rattle.search_state.proofs.state.SearchState.position_verifying.Goals as goal

pub due_verify-requires : goal.due_verify-requires
due_verify-requires c =
    verified-low c.self.inside c.args.culprit
    (kept-verifying c.self.inside c.args.self.now c.args.culprit c.self.view_is c.requires)

pub returns : goal.returns
returns c =
    let s = c.self.inside in
    let k = c.args.culprit in
    let again : List Run = reverse s.reruns in
    let out : List ℕ = c.args.outstanding.now in
    let v = kept-verification s c.args.self.now k c.self.invariant c.self.view_is c.requires in
    let counts = c.counts-at_culprit in
    c.due_verify.ensures
    ∙ ap (λ (n : ℕ). due_verify k n counts.result.1 out s.asked)
    (at-culprit s k counts.result.0 v (counts.ensures.reruns_at_culprit again v.stands))
    ∙ ap (λ (n : ℕ). due_verify k (reruns_at k again) n out s.asked)
    (at-parent s k counts.result.1 v (counts.ensures.reruns_at_parent again v.stands))
    ∙ ap (λ (n : ℕ). due_verify k (reruns_at k again) (reruns_at (k - 1) again) out n) c.self.invariant.set_up.asked_is
    ∙ ap (λ (x : SearchView). position_verifying x k out) c.self.view_is
