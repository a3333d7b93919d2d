-- What the priors of a search sum to: no less than the least total that a budget takes, and no more than the greatest.
use Rattle.std.proofs.Common.{◌≡◌, ℕ, ◌+◌, ◌*◌, ◌≤◌, List, [], ◌∷◌, ◌++◌, length, sum, All, arith}
use Rattle.std.proofs.lemmas.List.Elements.{All-head, All-weaker}
use Rattle.std.proofs.lemmas.List.Sums.{sum_by-append, sum_by-cons, sum_by-le}
use Rattle.weight_exact.specs.Limits.{ArePriors, IsWeight}
use Rattle.weight_exact.specs.declared.limits.TheConstants.{MAX_WEIGHT}
use Rattle.weight_exact.specs.declared.run_budget.TheConstants.{MAX_PRIOR_TOTAL, MIN_PRIOR_TOTAL}

-- weights of which there is one sum to at least 1
sum-positive : (ws : List ℕ) → 1 ≤ length ws → All IsWeight ws → 1 ≤ sum ws
sum-positive [] some all = absurd (omega arith)
sum-positive (w ∷ ws) some all =
    omega (arith, (All-head IsWeight w ws all).0, sum_by-cons (λ (x : ℕ). x) w ws)

pub priors-total : (weights : List ℕ) (calm : ℕ) → ArePriors weights calm →
    (sum (weights ++ calm ∷ []) ≡ sum weights + calm) × (sum weights + calm ≤ MAX_PRIOR_TOTAL)
    × (MIN_PRIOR_TOTAL ≤ sum weights + calm)
priors-total weights calm p =
    let one : ℕ → ℕ = λ x. x in
    let joined : sum (weights ++ calm ∷ []) ≡ sum weights + sum (calm ∷ []) = sum_by-append one weights (calm ∷ []) in
    let last : sum (calm ∷ []) ≡ calm + sum [] = sum_by-cons one calm [] in
    let small : All (λ (w : ℕ). w ≤ MAX_WEIGHT) weights = All-weaker IsWeight (λ (w : ℕ). w ≤ MAX_WEIGHT) (λ w h. h.1) weights p.each in
    let most : sum weights ≤ length weights * MAX_WEIGHT = sum_by-le one MAX_WEIGHT weights small in
    let some : 1 ≤ sum weights = sum-positive weights p.some p.each in
    (omega (arith, joined, last), omega (arith, most, p.few, p.little_calm), omega (arith, some, p.some_calm))
