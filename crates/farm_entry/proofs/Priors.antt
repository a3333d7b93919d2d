-- What the prior weights of a range sum to, that of "no culprit" among them, where the sum is made in two parts.
use Rattle.std.proofs.Common.{◌≡◌, ℕ, ◌+◌, ◌≤◌, List, [], ◌∷◌, ◌++◌, map, sum, ap, arith, refl, ◌∙◌}
use Rattle.farm_types.specs.declared.commit_id.CommitId.{CommitId}
use Rattle.suspect_range.specs.Range.{IsSuspectRange}
use Rattle.suspect_range.specs.declared.suspect.Suspect.{Suspect}
use Rattle.suspect_range.proofs.Legal.{weights_are_priors}
use Rattle.weight_exact.specs.declared.run_budget.TheConstants.{MAX_PRIOR_TOTAL, MIN_PRIOR_TOTAL}
use Rattle.weight_exact.proofs.Priors.{priors-total}

pub total-made : (base : CommitId) (suspects told : List Suspect) (calm first last : ℕ) → IsSuspectRange base suspects calm →
    told ≡ suspects → first ≡ sum (map (λ suspect. suspect.weight) told) → last ≡ calm →
    (first + last ≡ sum (map (λ suspect. suspect.weight) suspects ++ calm ∷ []))
    × (MIN_PRIOR_TOTAL ≤ first + last) × (first + last ≤ MAX_PRIOR_TOTAL)
total-made base suspects told calm first last range same weights calmly =
    let ws : List ℕ = map (λ (s : Suspect). s.weight) suspects in
    let total = priors-total ws calm (weights_are_priors base suspects calm ws range refl) in
    let sums : first ≡ sum ws = weights ∙ ap (λ (xs : List Suspect). sum (map (λ (s : Suspect). s.weight) xs)) same in
    (omega (arith, total.0, sums, calmly), omega (arith, total.2, sums, calmly), omega (arith, total.1, sums, calmly))
