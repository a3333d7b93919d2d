-- One run more: what it does to each weight.
use Rattle.std.proofs.Common.{◌≡◌, ℕ, ◌*◌, ◌<◌, ◌≤◌, List, [], ◌∷◌, ◌++◌, ap, ◌∙◌, arith, ⊎_elim, mul-zero, zero-mul}
use Rattle.std.proofs.lemmas.Bool.{cases_lt}
use Rattle.weight_exact.specs.Factors.{factor}
use Rattle.weight_exact.specs.Weights.{Setup, weight}
use Rattle.weight_exact.specs.Load.{floor}
use Rattle.weight_exact.specs.declared.run.Run.{Run}
use Rattle.weight_exact.specs.declared.run.Verdict.TheVariants.{Pass, Fail}
use Rattle.leaf_laws.proofs.Likelihoods.{factor_fail_out, factor_pass_in, factor_pass_out, weight_push}
use Rattle.weight_exact.proofs.Floors.{weight-floor}

-- ---- a pass

-- where a broken test never passes, a pass clears the suspects up to its position
pub weight_push_pass_in : (s : Setup) (runs : List Run) (r : Run) (i : ℕ) → s.factors.pass_in ≡ 0 → r.verdict ≡ Pass →
    i ≤ r.position → weight s (runs ++ r ∷ []) i ≡ 0
weight_push_pass_in s runs r i never is within =
    let none : factor s.factors i r ≡ 0 = factor_pass_in s.factors i r is within ∙ never in
    weight_push s runs r i ∙ (ap (λ n. weight s runs i * n) none ∙ mul-zero (weight s runs i))

-- and multiplies each hypothesis above by the number of a pass outside
pub weight_push_pass_out : (s : Setup) (runs : List Run) (r : Run) (i : ℕ) → r.verdict ≡ Pass → r.position < i →
    weight s (runs ++ r ∷ []) i ≡ weight s runs i * s.factors.pass_out
weight_push_pass_out s runs r i is above =
    weight_push s runs r i ∙ ap (λ n. weight s runs i * n) (factor_pass_out s.factors i r is above)

-- ---- a fail

-- a fail at or below the floor multiplies each hypothesis by the number of a fail outside: those up to it weigh 0
pub weight_push_fail_below : (s : Setup) (runs : List Run) (r : Run) (i : ℕ) → r.verdict ≡ Fail →
    r.position ≤ floor s.factors runs → 1 ≤ i → weight s (runs ++ r ∷ []) i ≡ weight s runs i * s.factors.fail_out
weight_push_fail_below s runs r i is below low =
    weight_push s runs r i ∙
    ⊎_elim
    (λ (above : floor s.factors runs < i).
    ap (λ n. weight s runs i * n) (factor_fail_out s.factors i r is (omega arith)))
    (λ (within : i ≤ floor s.factors runs).
    let none : weight s runs i ≡ 0 = weight-floor s runs i low within in
    rw (none, zero-mul (factor s.factors i r), zero-mul s.factors.fail_out))
    (cases_lt (floor s.factors runs) i)
