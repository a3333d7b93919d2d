-- A belief before any run.
use Rattle.std.proofs.Common.{◌≡◌, ℕ, ◌+◌, ◌-◌, ◌≤◌, List, [], ◌∷◌, ◌++◌, length, sum, sym, ap, ◌∙◌, subst, arith}
use Rattle.std.proofs.lemmas.List.{length-append, get_or_at}
use Rattle.flake_rate.specs.Rate.{rate_numerator, rate_denominator}
use Rattle.flake_rate.specs.Miss.{miss_numerator, miss_denominator}
use Rattle.flake_rate.specs.declared.rate.Rate.{Rate}
use Rattle.flake_rate.specs.declared.miss.Miss.{Miss}
use Rattle.flake_rate.proofs.Values.{rate-in_limits, miss-in_limits, bar-in_limits}
use Rattle.weight_exact.specs.Factors.{factors_of}
use Rattle.weight_exact.specs.Limits.{ArePriors}
use Rattle.weight_exact.specs.Cumulative.{AreSumsOf}
use Rattle.weight_exact.specs.Budget.{Fits, budget_of, run_budget}
use Rattle.weight_exact.specs.Powers.{PowersOf}
use Rattle.weight_exact.specs.declared.factors.Factors.{Factors}
use Rattle.weight_exact.proofs.Budgets.{Fits-fewer}
use Rattle.weight_exact.proofs.FactorNumbers.{fail_out_positive, pass_out_positive}
use Rattle.posterior.specs.Kept.{at}
use Rattle.posterior.specs.Counted.{counted}
use Rattle.posterior.specs.Middle.{reaching}
use Rattle.posterior.specs.Walk.{CanWalk, tallied_weight}
use Rattle.posterior.specs.BeliefFacts.{IsKept, weight_in}
use Rattle.posterior.specs.BeliefInside.{kept_of, IsBelief}
use Rattle.posterior.specs.declared.belief.Belief.TheInside.{Inside}
use Rattle.posterior.specs.declared.tallies.Tallies.{Tallies}
use Rattle.posterior.proofs.Reclosed.{reached_by}

-- before any run the walk can be made
pub begun_walk : (weights : List ℕ) (calm : ℕ) (rate : Rate) (miss : Miss) (priors : List ℕ) (powers : PowersOf) (t : Tallies) (sums : List ℕ)
    → ArePriors weights calm → priors ≡ weights ++ calm ∷ [] → powers.factors ≡ factors_of rate miss → Fits (sum priors) (factors_of rate miss) powers.budget
    → length t.fails.items ≡ length weights → t.failed + t.passed ≡ 0 → length sums ≡ length weights + 1 → CanWalk priors powers t sums
begun_walk weights calm rate miss priors powers t sums p priors_are factors_are fits long none sums_long =
    let a = rate_numerator rate in
    let d = miss_denominator miss in
    let out : 1 ≤ (factors_of rate miss).fail_out = fail_out_positive a (rate_denominator rate) (miss_numerator miss) d (rate-in_limits rate) (miss-in_limits miss) in
    let also : 1 ≤ (factors_of rate miss).pass_out = pass_out_positive a (rate_denominator rate) (miss_numerator miss) d (rate-in_limits rate) (miss-in_limits miss) in
    let size : length priors ≡ length weights + 1 = ap length priors_are ∙ omega (arith, length-append weights (calm ∷ [])) in
    let last : at (weights ++ calm ∷ []) (length priors) ≡ calm = get_or_at weights calm [] 0 (length priors - 1) (omega arith) in
    let calm_is : at priors (length priors) ≡ calm = ap (λ (xs : List ℕ). at xs (length priors)) priors_are ∙ last in
    let here : Fits (sum priors) (factors_of rate miss) (t.failed + t.passed) =
    Fits-fewer (sum priors) (factors_of rate miss) powers.budget (t.failed + t.passed) (omega arith) (omega arith) fits in
    let F : Factors → Type 0 = λ f. Fits (sum priors) f (t.failed + t.passed) in
    record {
      size = omega arith;
      few = omega (arith, p.few);
      room = omega arith;
      small = omega arith;
      together = omega arith;
      fits = subst F (sym factors_are) here;
      calm = omega (arith, calm_is, p.some_calm);
      some_fail = rw factors_are out;
      some_pass = rw factors_are also;
    }

-- the belief that `start` makes
pub begun : (b : Inside) (weights : List ℕ) (calm : ℕ) (rate : Rate) (miss : Miss) → b.priors.items ≡ weights ++ calm ∷ [] → ArePriors weights calm
    → b.factors ≡ factors_of rate miss → b.powers ≡ record { factors = factors_of rate miss; budget = b.budget }
    → b.budget ≡ budget_of (sum b.priors.items) (factors_of rate miss) → Fits (sum b.priors.items) (factors_of rate miss) b.budget → b.budget ≤ 113
    → length b.tallies.fails.items ≡ length weights → b.tallies.floor ≡ 0 → b.tallies.failed + b.tallies.passed ≡ 0 → length b.sums ≡ length b.priors.items
    → (priors : List ℕ) → priors ≡ b.priors.items
    → AreSumsOf (tallied_weight priors b.powers.factors b.tallies) b.sums
    → b.reached ≡ reaching b.bar (tallied_weight priors b.powers.factors b.tallies) b.sums
    → IsBelief b
begun b weights calm rate miss priors_are p factors_are powers_are budget_is fits few long low none sums_long priors same sums_are reached_are =
    let t = b.tallies in
    let a = rate_numerator rate in
    let d = miss_denominator miss in
    let all_fails : t.failed ≡ counted t.fails.items = t.all_fails in
    let all_passes : t.passed ≡ counted t.passes.items = t.all_passes in
    let same_length : t.passes.len ≡ t.fails.len = t.same_length in
    let size : length b.priors.items ≡ length weights + 1 = ap length priors_are ∙ omega (arith, length-append weights (calm ∷ [])) in
    let powers_factors : b.powers.factors ≡ b.factors = ap (λ (p : PowersOf). p.factors) powers_are ∙ sym factors_are in
    let weights_now : (P : (ℕ → ℕ) → Type 0) → P (tallied_weight priors b.powers.factors t) → P (weight_in (kept_of b)) = λ P holds.
    let Q : List ℕ → Type 0 = λ (qs : List ℕ). P (tallied_weight qs b.powers.factors t) in
    let F : Factors → Type 0 = λ (f : Factors). P (tallied_weight b.priors.items f t) in
    subst F powers_factors (subst Q same holds) in
    let sums_now = weights_now (λ (w : ℕ → ℕ). AreSumsOf w b.sums) sums_are in
    let budget_now : b.budget ≡ run_budget (kept_of b).setup = budget_is ∙ ap (budget_of (sum b.priors.items)) (sym factors_are) in
    let fits_now : Fits (sum b.priors.items) b.factors (run_budget (kept_of b).setup) =
    let F : Factors → Type 0 = λ f. Fits (sum b.priors.items) f b.budget in
    let N : ℕ → Type 0 = λ n. Fits (sum b.priors.items) b.factors n in
    subst N budget_now (subst F (sym factors_are) fits) in
    let calm_is : at b.priors.items (length b.priors.items) ≡ calm =
    let L : at (weights ++ calm ∷ []) (length b.priors.items) ≡ calm = get_or_at weights calm [] 0 (length b.priors.items - 1) (omega arith) in
    ap (λ (xs : List ℕ). at xs (length b.priors.items)) priors_are ∙ L in
    let out : 1 ≤ (factors_of rate miss).fail_out = fail_out_positive a (rate_denominator rate) (miss_numerator miss) d (rate-in_limits rate) (miss-in_limits miss) in
    let also : 1 ≤ (factors_of rate miss).pass_out = pass_out_positive a (rate_denominator rate) (miss_numerator miss) d (rate-in_limits rate) (miss-in_limits miss) in
    let bar = bar-in_limits b.bar in
    let kept : IsKept (kept_of b) = record {
      some_suspect = omega (arith, p.some);
      few_suspects = omega (arith, p.few);
      some_calm = omega (arith, calm_is, p.some_calm);
      some_fail = rw factors_are out;
      some_pass = rw factors_are also;
      above_half = omega (arith, bar);
      below_one = omega (arith, bar);
      fine = omega (arith, bar);
      fits = fits_now;
      as_many_fails = omega arith;
      as_many_passes = omega arith;
      as_many_sums = sums_long;
      floor_low = omega (arith, low);
      floor_if_missed = λ _. low;
      fails_cleared = t.fails_cleared;
      passes_cleared = t.passes_cleared;
      no_passes = λ _. omega (arith, none);
      load_is = omega arith;
      within = omega (arith, none);
      sums_are = λ i first last. sums_now i first (omega (arith, sums_long));
    } in
    record {
      kept = kept;
      powers_are = powers_are ∙ ap (λ (f : Factors). let q : PowersOf = record { factors = f; budget = b.budget } in q) (sym factors_are);
      budget_is = budget_now;
      few_runs = few;
      reached_is = reached_by b kept (weights_now (λ (w : ℕ → ℕ). b.reached ≡ reaching b.bar w b.sums) reached_are);
    }
