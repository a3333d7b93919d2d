use Rattle.std.proofs.Common.{◌≡◌, ◌⊎◌, inl, inr, ℕ, ◌+◌, ◌-◌, nat_lt, List, reverse, sym, ap, ◌∙◌, arith}
use Rattle.weight_exact.specs.declared.run.Run.{Run}
use Rattle.farm_rules.specs.Reruns.{reruns_at}
use Rattle.search_state.specs.SearchView.{SearchView, has_room}
use Rattle.search_state.proofs.Verified.{at-culprit, at-parent, kept-verification}
use Rattle.search_state.proofs.state.SearchState.has_room.Goals.{then-run-culprit, else-run-culprit}
use Rattle.search_state.proofs.state.SearchState.has_room.Goals as goal

-- what isn't at the culprit is just below it
below-culprit : (n k : ℕ) → (n ≡ k) ⊎ (n + 1 ≡ k) → (n ≡ k → ⊥) → k - 1 ≡ n
below-culprit n k (inl here) other = absurd (other here)
below-culprit n k (inr below) other = omega (arith, below)

pub returns : goal.returns
returns c =
    let s = c.self.inside in
    let k = c.args.culprit in
    let r : Run = c.args.run in
    let again : List Run = reverse s.reruns in
    let v = kept-verification s c.args.self.now k c.self.invariant c.self.view_is c.requires.verifying in
    let counts = c.counts-at_culprit in
    let here : c.if-run-culprit.counted ≡ reruns_at r.position again =
    elim c.if-run-culprit.branch [
      | then-run-culprit w ↦ (
          w.counted-is
          ∙ at-culprit s k counts.result.0 v (counts.ensures.reruns_at_culprit again v.stands)
          ∙ ap (λ (n : ℕ). reruns_at n again) (sym w.if-run-culprit.true)
          )
      | else-run-culprit w ↦ (
          let parent : k - 1 ≡ r.position = below-culprit r.position k c.requires.side w.if-run-culprit.false in
          w.counted-is
          ∙ at-parent s k counts.result.1 v (counts.ensures.reruns_at_parent again v.stands)
          ∙ ap (λ (n : ℕ). reruns_at n again) parent
          )
    ] in
    ap (λ (n : ℕ). nat_lt n s.asked) here
    ∙ ap (λ (n : ℕ). nat_lt (reruns_at r.position again) n) c.self.invariant.set_up.asked_is
    ∙ ap (λ (x : SearchView). has_room x r) c.self.view_is
