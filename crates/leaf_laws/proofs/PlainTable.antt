-- The plain table: where a broken test never passes, weights by the numbers b, a, 0 and b - a, which are not in lowest
-- terms, give the same shares, the same named hypothesis and the same plan.
use Rattle.std.proofs.Common.{◌≡◌, ℕ, ◌+◌, ◌*◌, ◌^◌, ◌-◌, ◌≤◌, ◌↔◌, Bool, true, false, not, cond, nat_le, List, [], ◌∷◌, refl, sym, ap, ◌∙◌, arith, mul_assoc, one-mul, pow-add, pow-suc, zero-mul}
use Rattle.std.proofs.Math.Nat.{pow-zero, one-le-pow}
use Rattle.std.proofs.lemmas.List.Sums.{sum_by-cons}
use Rattle.flake_rate.specs.Divisor.{gcd}
use Rattle.flake_rate.specs.Limits.{IsRate}
use Rattle.weight_exact.specs.Factors.{verdict_factor, factors}
use Rattle.leaf_laws.specs.Plain.{on_plain_table, passes, plain_factors}
use Rattle.weight_exact.specs.Load.{is_fail, floor}
use Rattle.weight_exact.specs.Plan.{distance, nearest, pick, plan}
use Rattle.weight_exact.specs.Share.{basis_points, IsReached, is_at_bar, reached}
use Rattle.weight_exact.specs.Weights.{Setup, hypotheses, suspects, prior, likelihood, weight, cumulative, total}
use Rattle.weight_exact.specs.declared.factors.Factors.{Factors}
use Rattle.weight_exact.specs.declared.run.Run.{Run}
use Rattle.weight_exact.specs.declared.run.Verdict.{Verdict}
use Rattle.weight_exact.specs.declared.run.Verdict.TheVariants.{Pass, Fail}
use Rattle.leaf_laws.proofs.FactorNumbers.{factors_no_miss}
use Rattle.weight_exact.proofs.Floors.{floor_no_miss}
use Rattle.weight_exact.proofs.Plans.{nearest-same}
use Rattle.leaf_laws.proofs.Plans.{nearest-mul_right, picks-same}
use Rattle.weight_exact.proofs.Shares.{share-mul_right, at_bar-mul_right, is_at_bar-mul_right, last_to-same}
use Rattle.weight_exact.proofs.SumTo.{sum_to-same, sum_to-mul_right}

-- the numbers in lowest terms of the rate a/b where a broken test never passes
abbrev lowest : (a b : ℕ) → Factors
lowest a b = record { fail_in = b; fail_out = a; pass_in = 0; pass_out = 1 }

pow-one : (k : ℕ) → k ^ 1 ≡ k
pow-one k = pow-suc k 0 ∙ (ap (λ n. n * k) (pow-zero k) ∙ one-mul k)

-- a pass counts b - a times as much by the plain table, and a fail as much
verdict_factor-plain : (a b : ℕ) (v : Verdict) (inside : Bool) →
    verdict_factor (plain_factors a b) v inside
    ≡ verdict_factor (lowest a b) v inside * (b - a) ^ cond (not (is_fail v)) 1 0
verdict_factor-plain a b Fail true = rw (pow-zero (b - a)) (omega arith)
verdict_factor-plain a b Fail false = rw (pow-zero (b - a)) (omega arith)
verdict_factor-plain a b Pass true = sym (zero-mul ((b - a) ^ 1))
verdict_factor-plain a b Pass false = sym (one-mul ((b - a) ^ 1) ∙ pow-one (b - a))

-- b - a for each pass is what the plain table's likelihood has more
likelihood-plain : (a b i : ℕ) (runs : List Run) →
    likelihood (plain_factors a b) i runs ≡ likelihood (lowest a b) i runs * (b - a) ^ passes runs
likelihood-plain a b i [] = sym (rw (pow-zero (b - a)))
likelihood-plain a b i (r ∷ rs) =
    let one = λ (x : Run). cond (not (is_fail x.verdict)) 1 0 in
    let count : passes (r ∷ rs) ≡ one r + passes rs = sum_by-cons one r rs in
    let power : (b - a) ^ passes (r ∷ rs) ≡ (b - a) ^ one r * (b - a) ^ passes rs =
    ap (λ n. (b - a) ^ n) count ∙ pow-add (b - a) (one r) (passes rs) in
    rw (power, verdict_factor-plain a b r.verdict (nat_le i r.position), likelihood-plain a b i rs) (omega arith)

module _ (s : Setup) (a b : ℕ) (rate : IsRate a b) (coprime : gcd a b ≡ 1) (never : s.factors ≡ factors a b 0 1) where
  numbers : s.factors ≡ lowest a b
  numbers = never ∙ factors_no_miss a b rate coprime

  -- each weight by the plain table has b - a more for each pass
  pub weight-plain : (runs : List Run) (i : ℕ) →
      weight (on_plain_table s a b) runs i ≡ weight s runs i * (b - a) ^ passes runs
  weight-plain runs i =
      let same : likelihood s.factors i runs ≡ likelihood (lowest a b) i runs = ap (λ f. likelihood f i runs) numbers in
      rw (likelihood-plain a b i runs, same)
      (sym (mul_assoc (prior s i) (likelihood (lowest a b) i runs) ((b - a) ^ passes runs)))

  -- and so has each cumulative weight
  pub cumulative-plain : (runs : List Run) (i : ℕ) →
      cumulative (on_plain_table s a b) runs i ≡ cumulative s runs i * (b - a) ^ passes runs
  cumulative-plain runs i =
      let m = (b - a) ^ passes runs in
      let plain : ℕ → ℕ = weight (on_plain_table s a b) runs in
      sum_to-same plain (λ q. weight s runs q * m) i (λ q low high. weight-plain runs q) ∙
      sum_to-mul_right (weight s runs) m i

  pub total-plain : (runs : List Run) → total (on_plain_table s a b) runs ≡ total s runs * (b - a) ^ passes runs
  total-plain runs = cumulative-plain runs (hypotheses s)

  -- the factor is positive
  factor_positive : (runs : List Run) → 1 ≤ (b - a) ^ passes runs
  factor_positive runs = one-le-pow (passes runs) (b - a) (omega arith)

  -- the shares are the same
  pub basis_points-plain : (runs : List Run) (i : ℕ) →
      basis_points (on_plain_table s a b) runs i ≡ basis_points s runs i
  basis_points-plain runs i =
      rw (weight-plain runs i, total-plain runs)
      (share-mul_right ((b - a) ^ passes runs) (weight s runs i) (total s runs) (factor_positive runs))

  -- the same hypotheses reach the bar
  pub IsReached-plain : (runs : List Run) (i : ℕ) → IsReached (on_plain_table s a b) runs i ↔ IsReached s runs i
  IsReached-plain runs i =
      let m = (b - a) ^ passes runs in
      let t = s.bar_numerator in
      let u = s.bar_denominator in
      let both = at_bar-mul_right m t u (total s runs) (weight s runs i) (factor_positive runs) in (
        λ is. record {
          first = is.first;
          last = is.last;
          at_bar = both.0 (rw (weight-plain runs i, total-plain runs) at is.at_bar);
        },
        λ is. record {
          first = is.first;
          last = is.last;
          at_bar = rw (weight-plain runs i, total-plain runs) (both.1 is.at_bar);
        },
      )

  pub reached-plain : (runs : List Run) → reached (on_plain_table s a b) runs ≡ reached s runs
  reached-plain runs =
      let plain = on_plain_table s a b in
      let t = s.bar_numerator in
      let u = s.bar_denominator in
      let m = (b - a) ^ passes runs in
      last_to-same
      (λ i. is_at_bar t u (total plain runs) (weight plain runs i))
      (λ i. is_at_bar t u (total s runs) (weight s runs i))
      (hypotheses s)
      (λ i low high.
      rw (weight-plain runs i, total-plain runs)
      (is_at_bar-mul_right m t u (total s runs) (weight s runs i) (factor_positive runs)))

  -- the floor is the same: by both tables a broken test never passes
  pub floor-plain : (runs : List Run) → floor (plain_factors a b) runs ≡ floor s.factors runs
  floor-plain runs =
      floor_no_miss (plain_factors a b) runs refl ∙
      sym (floor_no_miss s.factors runs (ap (λ (f : Factors). f.pass_in) numbers))

  -- each position of a plan is the same
  pub pick-plain : (runs : List Run) (k j : ℕ) → pick (on_plain_table s a b) runs k j ≡ pick s runs k j
  pick-plain runs k j =
      let m = (b - a) ^ passes runs in
      let low = floor s.factors runs in
      let more = suspects s - low - 1 in
      let plain = on_plain_table s a b in
      let whole = total s runs in
      let sums : ℕ → ℕ = cumulative s runs in
      let away : ℕ → ℕ = λ i. distance (total plain runs) j k (cumulative plain runs i) in
      let scaled : ℕ → ℕ = λ i. distance (whole * m) j k (sums i * m) in
      ap (λ l. nearest away l (suspects s - l - 1)) (floor-plain runs) ∙
      (nearest-same away scaled low more
      (λ p q above_p within_p above_q within_q.
      rw (total-plain runs, cumulative-plain runs p, cumulative-plain runs q)) ∙
      nearest-mul_right sums whole j k low more m (factor_positive runs))

  -- the plans are the same
  pub plan-plain : (runs : List Run) (k : ℕ) → plan (on_plain_table s a b) runs k ≡ plan s runs k
  plan-plain runs k =
      picks-same (on_plain_table s a b) s runs runs k k (λ j low high. pick-plain runs k j)
