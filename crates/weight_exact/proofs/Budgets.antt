-- The budget: the number of runs that fit in 128 bits.
use Rattle.std.proofs.Common.{◌≡◌, ℕ, zero, suc, ◌*◌, ◌^◌, ◌<◌, ◌≤◌, Bool, true, false, nat_lt, sym, ◌∙◌, ap, arith, ⊎_elim, mul-le-mul_left, mul-le-mul_right, le_antisymm, ltb-true, lt-ltb}
use Rattle.std.proofs.Math.Nat.{pow-le-pow_left, pow-le-pow_right}
use Rattle.std.proofs.lemmas.Bool.{cases_Bool, cases_lt, false≢true}
use Rattle.weight_exact.specs.Factors.{greatest_factor}
use Rattle.weight_exact.specs.Budget.{Fits, IsBudget, last_below, budget_of}
use Rattle.weight_exact.specs.declared.factors.Factors.{Factors}
use Rattle.weight_exact.specs.declared.limits.TheConstants.{BASIS_POINTS}

-- what fits, fits with fewer runs
pub Fits-fewer : (prior_total : ℕ) (f : Factors) (runs fewer : ℕ) → 1 ≤ greatest_factor f → fewer ≤ runs →
    Fits prior_total f runs → Fits prior_total f fewer
Fits-fewer prior_total f runs fewer some less fits =
    let g = greatest_factor f in
    let powers : g ^ fewer ≤ g ^ runs = pow-le-pow_right some less in
    let products : prior_total * g ^ fewer ≤ prior_total * g ^ runs = mul-le-mul_left prior_total powers in
    omega arith

-- fewer than 128 runs fit
pub Fits_few : (prior_total : ℕ) (f : Factors) (runs : ℕ) → 1 ≤ prior_total → 2 ≤ greatest_factor f →
    Fits prior_total f runs → runs < 128
Fits_few prior_total f runs some two fits =
    ⊎_elim
    (λ (less : runs < 128). less)
    (λ (many : 128 ≤ runs).
    let g = greatest_factor f in
    let twos : 2 ^ 128 ≤ 2 ^ runs = pow-le-pow_right (omega arith) many in
    let powers : 2 ^ runs ≤ g ^ runs = pow-le-pow_left two runs in
    let products : 1 * g ^ runs ≤ prior_total * g ^ runs = mul-le-mul_right (g ^ runs) some in
    absurd (omega arith))
    (cases_lt runs 128)

-- the number found below n passes the test, where 0 does
last_below_passes : (test : ℕ → Bool) (n : ℕ) → test 0 ≡ true → test (last_below test n) ≡ true
last_below_passes test zero start = start
last_below_passes test (suc n) start =
    ⊎_elim
    (λ (holds : test n ≡ true). rw (holds, holds))
    (λ (fails : test n ≡ false). rw fails (last_below_passes test n start))
    (cases_Bool (test n))

-- no greater one below n passes
last_below_last : (test : ℕ → Bool) (n i : ℕ) → i < n → test i ≡ true → i ≤ last_below test n
last_below_last test zero i less holds = absurd (omega arith)
last_below_last test (suc n) i less holds =
    ⊎_elim
    (λ (here : test n ≡ true). rw here (omega arith))
    (λ (fails : test n ≡ false).
    ⊎_elim
    (λ (below : i < n). rw fails (last_below_last test n i below holds))
    (λ (above : n ≤ i).
    let same : n ≡ i = omega arith in
    absurd (false≢true (sym fails ∙ (ap test same ∙ holds))))
    (cases_lt i n))
    (cases_Bool (test n))

-- whether so many runs fit, as a test
abbrev fits_test : ℕ → Factors → ℕ → Bool
fits_test prior_total f runs = nat_lt (prior_total * greatest_factor f ^ runs * BASIS_POINTS) (2 ^ 128)

-- the computed number is the budget
pub IsBudget-budget_of : (prior_total : ℕ) (f : Factors) → 1 ≤ prior_total → 2 ≤ greatest_factor f →
    Fits prior_total f 0 → IsBudget prior_total f (budget_of prior_total f)
unfolding budget_of
IsBudget-budget_of prior_total f some two none =
    let test : ℕ → Bool = fits_test prior_total f in
    record {
      fits = ltb-true (prior_total * greatest_factor f ^ last_below test 128 * BASIS_POINTS) (2 ^ 128)
          (last_below_passes test 128 (lt-ltb (prior_total * greatest_factor f ^ 0 * BASIS_POINTS) (2 ^ 128) none));
      greatest = λ more fits.
          last_below_last test 128 more (Fits_few prior_total f more some two fits)
          (lt-ltb (prior_total * greatest_factor f ^ more * BASIS_POINTS) (2 ^ 128) fits);
    }

-- there is one budget
pub IsBudget_once : (prior_total : ℕ) (f : Factors) (m n : ℕ) → IsBudget prior_total f m → IsBudget prior_total f n →
    m ≡ n
IsBudget_once prior_total f m n first second =
    le_antisymm (second.greatest m first.fits) (first.greatest n second.fits)

-- a budget is the computed number
pub IsBudget-is : (prior_total : ℕ) (f : Factors) (runs : ℕ) → 1 ≤ prior_total → 2 ≤ greatest_factor f →
    IsBudget prior_total f runs → runs ≡ budget_of prior_total f
IsBudget-is prior_total f runs some two budget =
    let none : Fits prior_total f 0 = Fits-fewer prior_total f runs 0 (omega arith) (omega arith) budget.fits in
    IsBudget_once prior_total f runs (budget_of prior_total f) budget
    (IsBudget-budget_of prior_total f some two none)
