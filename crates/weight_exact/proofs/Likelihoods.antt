-- The likelihood of a list of runs: it is positive where a sound tree may pass and may fail, and it counts the runs.
use Rattle.std.proofs.Common.{◌≡◌, ℕ, suc, ◌+◌, cond, not, ◌&&◌, zero-add, ◌*◌, ◌^◌, ◌<◌, ◌≤◌, Bool, true, false, nat_le, List, [], ◌∷◌, All, sym, ap, arith, mul_comm, pow-suc}
use Rattle.std.proofs.Math.Nat.{pow-zero, one-le-mul}
use Rattle.std.proofs.lemmas.Bool.{lt-leb}
use Rattle.std.proofs.lemmas.List.Sums.{sum_by-cons}
use Rattle.std.proofs.lemmas.List.Elements.{All-head, All-tail}
use Rattle.weight_exact.specs.Factors.{factor, verdict_factor}
use Rattle.weight_exact.specs.Load.{is_fail}
use Rattle.weight_exact.specs.Counts.{is_fail_in, is_fail_out, is_pass_in, is_pass_out, fails_in, fails_out, passes_in, passes_out}
use Rattle.weight_exact.specs.Weights.{likelihood}
use Rattle.weight_exact.specs.declared.factors.Factors.{Factors}
use Rattle.weight_exact.specs.declared.run.Run.{Run}
use Rattle.weight_exact.specs.declared.run.Verdict.{Verdict}
use Rattle.weight_exact.specs.declared.run.Verdict.TheVariants.{Pass, Fail}

-- a hypothesis above a run's position keeps a weight
factor_out_positive : (f : Factors) (i : ℕ) (r : Run) → 1 ≤ f.fail_out → 1 ≤ f.pass_out → r.position < i →
    1 ≤ factor f i r
factor_out_positive f i r fail pass above =
    let test : nat_le i r.position ≡ false = lt-leb i r.position above in
    rw test (elim r.verdict as (λ v. 1 ≤ verdict_factor f v false) [ Pass ↦ pass | Fail ↦ fail ])

-- the likelihood is positive where each number that a verdict multiplies by is
pub likelihood_positive : (f : Factors) (i : ℕ) (runs : List Run) → 1 ≤ f.fail_out → 1 ≤ f.pass_out →
    All (λ (r : Run). r.position < i) runs → 1 ≤ likelihood f i runs
likelihood_positive f i [] fail pass above = omega arith
likelihood_positive f i (r ∷ rs) fail pass above =
    let P : Run → Type 0 = λ r. r.position < i in
    one-le-mul (factor_out_positive f i r fail pass (All-head P r rs above))
    (likelihood_positive f i rs fail pass (All-tail P r rs above))

-- one power more of each of the four numbers
power_more : (a n : ℕ) → a ^ (1 + n) ≡ a * a ^ n
power_more a n = let e : 1 + n ≡ suc n = omega arith in rw (e, pow-suc a n) (mul_comm (a ^ n) a)

power_same : (a n : ℕ) → a ^ (0 + n) ≡ a ^ n
power_same a n = ap (λ m. a ^ m) (zero-add n)

-- what one run adds to the four powers
counts_more : (f : Factors) (v : Verdict) (inside : Bool) (a b c d : ℕ) →
    verdict_factor f v inside * (f.fail_in ^ a * f.fail_out ^ b * f.pass_in ^ c * f.pass_out ^ d)
    ≡ f.fail_in ^ (cond (is_fail v && inside) 1 0 + a)
    * f.fail_out ^ (cond (is_fail v && not inside) 1 0 + b)
    * f.pass_in ^ (cond (not (is_fail v) && inside) 1 0 + c)
    * f.pass_out ^ (cond (not (is_fail v) && not inside) 1 0 + d)
counts_more f Fail true a b c d =
    rw (power_more f.fail_in a, power_same f.fail_out b, power_same f.pass_in c, power_same f.pass_out d) (omega arith)
counts_more f Fail false a b c d =
    rw (power_same f.fail_in a, power_more f.fail_out b, power_same f.pass_in c, power_same f.pass_out d) (omega arith)
counts_more f Pass true a b c d =
    rw (power_same f.fail_in a, power_same f.fail_out b, power_more f.pass_in c, power_same f.pass_out d) (omega arith)
counts_more f Pass false a b c d =
    rw (power_same f.fail_in a, power_same f.fail_out b, power_same f.pass_in c, power_more f.pass_out d) (omega arith)

-- the likelihood by the counts of the four kinds of run: the order of runs doesn't matter
pub likelihood-counts : (f : Factors) (i : ℕ) (runs : List Run) →
    likelihood f i runs
    ≡ f.fail_in ^ fails_in i runs * f.fail_out ^ fails_out i runs
    * f.pass_in ^ passes_in i runs * f.pass_out ^ passes_out i runs
likelihood-counts f i [] = sym (rw (pow-zero f.fail_in, pow-zero f.fail_out, pow-zero f.pass_in, pow-zero f.pass_out))
likelihood-counts f i (r ∷ rs) =
    rw (
      likelihood-counts f i rs,
      sum_by-cons (λ x. cond (is_fail_in i x) 1 0) r rs,
      sum_by-cons (λ x. cond (is_fail_out i x) 1 0) r rs,
      sum_by-cons (λ x. cond (is_pass_in i x) 1 0) r rs,
      sum_by-cons (λ x. cond (is_pass_out i x) 1 0) r rs,
    )
    (counts_more f r.verdict (nat_le i r.position) (fails_in i rs) (fails_out i rs) (passes_in i rs) (passes_out i rs))
