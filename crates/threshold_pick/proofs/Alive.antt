-- Hypotheses above the floor keep their weight, so cumulative weights rise there.
use Rattle.std.proofs.Common.{◌≡◌, ℕ, ◌+◌, ◌*◌, ◌<◌, ◌≤◌, ◌⊎◌, inl, inr, true, false, nat_le, List, [], ◌∷◌, refl, arith, add-one, ⊎_elim, eq-zero-or-pos, mul-lt-mul_of_pos_right, lt_of_mul-lt-mul_right}
use Rattle.std.proofs.Math.Nat.{one-le-mul}
use Rattle.std.proofs.lemmas.Bool.{lt-leb}
use Rattle.weight_exact.specs.Factors.{verdict_factor}
use Rattle.weight_exact.specs.Load.{passed_at, last_pass, floor}
use Rattle.weight_exact.specs.Weights.{Setup, hypotheses, prior, likelihood, weight, cumulative, total}
use Rattle.weight_exact.specs.declared.factors.Factors.{Factors}
use Rattle.weight_exact.specs.declared.run.Run.{Run}
use Rattle.weight_exact.specs.declared.run.Verdict.{Verdict}
use Rattle.weight_exact.specs.declared.run.Verdict.TheVariants.{Pass, Fail}
use Rattle.weight_exact.proofs.Floors.{floor_no_miss}
use Rattle.threshold_pick.specs.Sums.{whole, RiseAbove}
use Rattle.threshold_pick.specs.Cumulative.{AreCumulative}

-- the numbers of a run are positive, but for that of a pass with the culprit in
pub record ArePositive (f : Factors) : Type 0 where
  pub fail_in : 1 ≤ f.fail_in
  pub fail_out : 1 ≤ f.fail_out
  pub pass_out : 1 ≤ f.pass_out

-- where a broken test may pass, or a hypothesis lies above the position of a pass, the run leaves it a weight
verdict_factor_positive : (f : Factors) (v : Verdict) (i k : ℕ) → ArePositive f → (1 ≤ f.pass_in) ⊎ (passed_at v k < i) →
    1 ≤ verdict_factor f v (nat_le i k)
verdict_factor_positive f Fail i k positive alive =
    elim (nat_le i k) as (λ b. 1 ≤ verdict_factor f Fail b) [ true ↦ positive.fail_in | false ↦ positive.fail_out ]
verdict_factor_positive f Pass i k positive alive =
    ⊎_elim
    (λ (may : 1 ≤ f.pass_in).
    elim (nat_le i k) as (λ b. 1 ≤ verdict_factor f Pass b) [ true ↦ may | false ↦ positive.pass_out ])
    (λ (above : k < i). let test : nat_le i k ≡ false = lt-leb i k above in rw test positive.pass_out)
    alive

-- so do all runs
likelihood_alive : (f : Factors) (i : ℕ) (runs : List Run) → ArePositive f → (1 ≤ f.pass_in) ⊎ (last_pass runs < i) →
    1 ≤ likelihood f i runs
likelihood_alive f i [] positive alive = omega arith
likelihood_alive f i (r ∷ rs) positive alive =
    let here : (1 ≤ f.pass_in) ⊎ (passed_at r.verdict r.position < i) =
    ⊎_elim (λ (may : 1 ≤ f.pass_in). inl may)
    (λ (above : last_pass (r ∷ rs) < i). inr (omega arith)) alive in
    let rest : (1 ≤ f.pass_in) ⊎ (last_pass rs < i) =
    ⊎_elim (λ (may : 1 ≤ f.pass_in). inl may)
    (λ (above : last_pass (r ∷ rs) < i). inr (omega arith)) alive in
    one-le-mul (verdict_factor_positive f r.verdict i r.position positive here) (likelihood_alive f i rs positive rest)

-- above the floor each likelihood is positive
pub likelihood_above_positive : (f : Factors) (runs : List Run) (i : ℕ) → ArePositive f → floor f runs < i →
    1 ≤ likelihood f i runs
likelihood_above_positive f runs i positive above =
    ⊎_elim
    (λ (never : f.pass_in ≡ 0).
    likelihood_alive f i runs positive (inr (omega (arith, above, floor_no_miss f runs never))))
    (λ (may : 0 < f.pass_in). likelihood_alive f i runs positive (inl may))
    (eq-zero-or-pos f.pass_in)

-- so cumulative weights rise there, and sums that are parts of them do
pub RiseAbove-cumulative : (s : Setup) (runs : List Run) (sums : List ℕ) → AreCumulative s runs sums →
    1 ≤ total s runs → ((i : ℕ) → 1 ≤ i → i ≤ hypotheses s → 1 ≤ prior s i) → ArePositive s.factors →
    RiseAbove (floor s.factors runs) sums
RiseAbove-cumulative s runs sums are_sums some_total priors positive i above before =
    let within : i + 1 ≤ hypotheses s = omega (arith, before, are_sums.one_each) in
    let next : 1 ≤ weight s runs (i + 1) =
    one-le-mul (priors (i + 1) (omega arith) within)
    (likelihood_above_positive s.factors runs (i + 1) positive (omega arith)) in
    let more : cumulative s runs (i + 1) ≡ cumulative s runs i + weight s runs (i + 1) = rw add-one refl in
    let rising : cumulative s runs i * whole sums < cumulative s runs (i + 1) * whole sums =
    mul-lt-mul_of_pos_right (omega (arith, next, more)) are_sums.some in
    let here = are_sums.parts i (omega arith) (omega arith) in
    let there = are_sums.parts (i + 1) (omega arith) within in
    lt_of_mul-lt-mul_right (total s runs) (omega (arith, here, there, rising))
