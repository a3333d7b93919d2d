-- What cancels: the hypotheses above the floor share what the settled runs multiply them by.
use Rattle.std.proofs.Common.{◌≡◌, ℕ, ◌*◌, ◌<◌, ◌≤◌, true, false, not, ◌&&◌, nat_le, nat_lt, List, [], ◌∷◌, filter, refl, sym, ap, ◌∙◌, arith, ⊎_elim, one-mul, mul_left_comm, lt-ltb, le-ltb, ltb-false, eq-zero-or-pos}
use Rattle.std.proofs.Math.Nat.{one-le-mul}
use Rattle.std.proofs.lemmas.Bool.{lt-leb, cases_Bool}
use Rattle.weight_exact.specs.Factors.{factor, verdict_factor}
use Rattle.weight_exact.specs.Weights.{Setup, prior, likelihood, weight}
use Rattle.weight_exact.specs.Load.{is_fail, passed_at, last_pass, floor, is_fail_above, live}
use Rattle.weight_exact.specs.Common.{settled, likelihood_out, common}
use Rattle.weight_exact.specs.declared.factors.Factors.{Factors}
use Rattle.weight_exact.specs.declared.run.Run.{Run}
use Rattle.weight_exact.specs.declared.run.Verdict.{Verdict}
use Rattle.weight_exact.specs.declared.run.Verdict.TheVariants.{Pass, Fail}
use Rattle.weight_exact.proofs.Floors.{floor_no_miss, live_no_miss, live_may_miss}

-- a run that is no fail above k and no pass above k is at a position up to k
position_settled : (k : ℕ) (r : Run) → passed_at r.verdict r.position ≤ k → is_fail_above k r ≡ false → r.position ≤ k
position_settled k r cleared fails = by_verdict r.verdict r.position cleared fails
  where
    by_verdict : (v : Verdict) (position : ℕ) → passed_at v position ≤ k → (is_fail v && nat_lt k position) ≡ false →
        position ≤ k
    by_verdict Pass position cleared fails = cleared
    by_verdict Fail position cleared fails = ltb-false k position fails

-- a settled run multiplies each hypothesis above k by its number of a tree without the culprit
factor_settled : (f : Factors) (k i : ℕ) (r : Run) → k < i → passed_at r.verdict r.position ≤ k →
    is_fail_above k r ≡ false → factor f i r ≡ verdict_factor f r.verdict false
factor_settled f k i r above cleared fails =
    let low : r.position ≤ k = position_settled k r cleared fails in
    let test : nat_le i r.position ≡ false = lt-leb i r.position (omega arith) in
    ap (verdict_factor f r.verdict) test

-- above k, with no pass above k, the likelihood is that of the settled runs times that of the fails above k
likelihood_split : (f : Factors) (k i : ℕ) (runs : List Run) → k < i → last_pass runs ≤ k →
    likelihood f i runs
    ≡ likelihood_out f (filter (λ r. not (is_fail_above k r)) runs) * likelihood f i (filter (is_fail_above k) runs)
likelihood_split f k i [] above cleared = refl
likelihood_split f k i (r ∷ rs) above cleared =
    let rest = likelihood_split f k i rs above (omega arith) in
    let settled_rest = likelihood_out f (filter (λ r. not (is_fail_above k r)) rs) in
    let live_rest = likelihood f i (filter (is_fail_above k) rs) in
    ⊎_elim
    (λ (holds : is_fail_above k r ≡ true). rw (holds, rest) (omega arith))
    (λ (fails : is_fail_above k r ≡ false).
    let out : factor f i r ≡ verdict_factor f r.verdict false = factor_settled f k i r above (omega arith) fails in
    rw (fails, rest, out) (omega arith))
    (cases_Bool (is_fail_above k r))

-- what is settled where a broken test never passes, and where it may pass
pub settled_no_miss : (f : Factors) (runs : List Run) → f.pass_in ≡ 0 →
    settled f runs ≡ filter (λ r. not (is_fail_above (last_pass runs) r)) runs
settled_no_miss f runs never = let test : nat_lt 0 f.pass_in ≡ false = le-ltb 0 f.pass_in (omega arith) in rw test

pub settled_may_miss : (f : Factors) (runs : List Run) → 1 ≤ f.pass_in → settled f runs ≡ []
settled_may_miss f runs may = let test : nat_lt 0 f.pass_in ≡ true = lt-ltb 0 f.pass_in may in rw test

-- where a broken test may pass, nothing is settled
pub common_may_miss : (f : Factors) (runs : List Run) → 1 ≤ f.pass_in → common f runs ≡ 1
common_may_miss f runs may = ap (likelihood_out f) (settled_may_miss f runs may)

-- above the floor the likelihood is the common factor times the likelihood of the live runs
pub likelihood-common-live : (f : Factors) (runs : List Run) (i : ℕ) → floor f runs < i →
    likelihood f i runs ≡ common f runs * likelihood f i (live f runs)
likelihood-common-live f runs i above =
    ⊎_elim
    (λ (never : f.pass_in ≡ 0).
    rw (settled_no_miss f runs never, live_no_miss f runs never)
    (likelihood_split f (last_pass runs) i runs (omega (arith, floor_no_miss f runs never)) (omega arith)))
    (λ (may : 0 < f.pass_in).
    rw (common_may_miss f runs may, live_may_miss f runs may) (sym (one-mul (likelihood f i runs))))
    (eq-zero-or-pos f.pass_in)

-- above the floor the weight is the common factor times the prior times the likelihood of the live runs
pub weight-common-live : (s : Setup) (runs : List Run) (i : ℕ) → floor s.factors runs < i →
    weight s runs i ≡ common s.factors runs * (prior s i * likelihood s.factors i (live s.factors runs))
weight-common-live s runs i above =
    ap (λ n. prior s i * n) (likelihood-common-live s.factors runs i above) ∙
    mul_left_comm (prior s i) (common s.factors runs) (likelihood s.factors i (live s.factors runs))

-- the common factor is positive where the numbers of a tree without the culprit are
likelihood_out_positive : (f : Factors) (runs : List Run) → 1 ≤ f.fail_out → 1 ≤ f.pass_out →
    1 ≤ likelihood_out f runs
likelihood_out_positive f [] fail pass = omega arith
likelihood_out_positive f (r ∷ rs) fail pass =
    one-le-mul (by_verdict r.verdict) (likelihood_out_positive f rs fail pass)
  where
    by_verdict : (v : Verdict) → 1 ≤ verdict_factor f v false
    by_verdict Pass = pass
    by_verdict Fail = fail

pub common_positive : (f : Factors) (runs : List Run) → 1 ≤ f.fail_out → 1 ≤ f.pass_out → 1 ≤ common f runs
common_positive f runs fail pass = likelihood_out_positive f (settled f runs) fail pass
