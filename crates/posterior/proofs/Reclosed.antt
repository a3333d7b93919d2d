-- A belief with new counts and sums.
use Rattle.std.proofs.Common.{◌≡◌, ℕ, ◌+◌, ◌<◌, ◌≤◌, List, length, Option, sum, sym, ap, ◌∙◌, subst, arith}
use Rattle.weight_exact.specs.Weights.{hypotheses}
use Rattle.flake_rate.specs.Bar.{bar_numerator, bar_denominator}
use Rattle.weight_exact.specs.Share.{last_to, is_at_bar}
use Rattle.weight_exact.specs.Cumulative.{AreSumsOf}
use Rattle.weight_exact.specs.Budget.{Fits, run_budget}
use Rattle.weight_exact.specs.Powers.{PowersOf}
use Rattle.weight_exact.specs.declared.factors.Factors.{Factors}
use Rattle.posterior.specs.Kept.{at}
use Rattle.posterior.specs.Counted.{counted}
use Rattle.posterior.specs.Middle.{last_of, reaching}
use Rattle.posterior.specs.Walk.{CanWalk, tallied_weight}
use Rattle.posterior.specs.BeliefFacts.{IsKept, weight_in}
use Rattle.posterior.specs.BeliefInside.{kept_of, reached_in, IsBelief}
use Rattle.posterior.specs.declared.belief.Belief.TheInside.{Inside}
use Rattle.posterior.specs.declared.tallies.Tallies.{Tallies}
use Rattle.posterior.proofs.Remade.{remade, load_fits}

-- the belief with new counts, sums and named hypothesis
abbrev pub recounted : Inside → Tallies → List ℕ → Option ℕ → Inside
recounted b t sums reached = record {
  priors = b.priors;
  factors = b.factors;
  bar = b.bar;
  powers = b.powers;
  budget = b.budget;
  tallies = t;
  sums = sums;
  reached = reached;
}

-- the numbers that a belief's powers are of
pub powers-factors : (b : Inside) → IsBelief b → b.powers.factors ≡ b.factors
powers-factors b h = ap (λ (p : PowersOf). p.factors) h.powers_are

pub powers-budget : (b : Inside) → IsBelief b → b.powers.budget ≡ run_budget (kept_of b).setup
powers-budget b h = ap (λ (p : PowersOf). p.budget) h.powers_are ∙ h.budget_is

-- the walk can be made over new tallies, where their load is within the budget
pub can_walk : (b : Inside) → IsBelief b → (t : Tallies) (priors : List ℕ) → priors ≡ b.priors.items
    → length t.fails.items ≡ length b.tallies.fails.items → t.failed + t.passed ≤ run_budget (kept_of b).setup
    → CanWalk priors b.powers t b.sums
can_walk b h t priors same long within =
    let s = (kept_of b).setup in
    let load : ℕ = t.failed + t.passed in
    let size : length priors ≡ length b.priors.items = ap length same in
    let was = h.kept.as_many_fails in
    let budget = powers-budget b h in
    let few : b.budget ≤ 113 = h.few_runs in
    let fits : Fits (sum b.priors.items) b.factors load = load_fits s load h.kept.some_fail h.kept.fits within in
    let F : Factors → Type 0 = λ f. Fits (sum b.priors.items) f load in
    let Q : List ℕ → Type 0 = λ ps. Fits (sum ps) b.powers.factors load in
    let calm : at priors (length priors) ≡ at b.priors.items (length b.priors.items) = ap (λ (xs : List ℕ). at xs (length xs)) same in
    record {
      size = omega arith;
      few = omega (arith, h.kept.few_suspects);
      room = omega (arith, h.kept.as_many_sums);
      small = omega (arith, h.budget_is);
      together = omega arith;
      fits = subst Q (sym same) (subst F (sym (powers-factors b h)) fits);
      calm = omega (arith, h.kept.some_calm);
      some_fail = rw (powers-factors b h) h.kept.some_fail;
      some_pass = rw (powers-factors b h) h.kept.some_pass;
    }

-- the belief with new tallies and sums keeps what it has to, where the sums are those of the new weights
pub recounted_kept : (b : Inside) → IsBelief b → (t : Tallies) (sums : List ℕ) (reached : Option ℕ)
    → length t.fails.items ≡ length b.tallies.fails.items
    → t.floor < hypotheses (kept_of b).setup → (1 ≤ b.factors.pass_in → t.floor ≡ 0) → (b.factors.pass_in ≡ 0 → t.passed ≡ 0)
    → t.failed + t.passed ≤ run_budget (kept_of b).setup
    → length sums ≡ length b.sums
    → AreSumsOf (weight_in (kept_of (recounted b t sums reached))) sums
    → IsKept (kept_of (recounted b t sums reached))
recounted_kept b h t sums reached long low missed none within sums_long are =
    let fs = t.fails.items in
    let ps = t.passes.items in
    let all_fails : t.failed ≡ counted fs = t.all_fails in
    let all_passes : t.passed ≡ counted ps = t.all_passes in
    let same_length : t.passes.len ≡ t.fails.len = t.same_length in
    let was_same : b.tallies.passes.len ≡ b.tallies.fails.len = b.tallies.same_length in
    remade (kept_of b).setup b.tallies.floor (b.tallies.failed + b.tallies.passed) b.tallies.fails.items b.tallies.passes.items b.sums h.kept
    t.floor (t.failed + t.passed) fs ps sums long (omega arith) sums_long low missed t.fails_cleared t.passes_cleared
    (λ never. sym all_passes ∙ none never) (omega arith) within (λ i first last. are i first (omega (arith, sums_long, h.kept.as_many_sums)))

-- the hypothesis at the bar by the sums is the one by what is kept
pub reached_by : (b : Inside) → IsKept (kept_of b) → b.reached ≡ reaching b.bar (weight_in (kept_of b)) b.sums → b.reached ≡ reached_in (kept_of b)
reached_by b kept is =
    let w = weight_in (kept_of b) in
    let t = bar_numerator b.bar in
    let u = bar_denominator b.bar in
    is
    ∙ (ap (λ (n : ℕ). last_to (λ i. is_at_bar t u (last_of b.sums) (w i)) n) kept.as_many_sums
    ∙ ap (λ (n : ℕ). last_to (λ i. is_at_bar t u (at b.sums n) (w i)) (length b.priors.items)) kept.as_many_sums)

-- with the hypothesis at the bar it is a belief again
pub reclosed : (b : Inside) → IsBelief b → (t : Tallies) (sums : List ℕ) (reached : Option ℕ)
    → IsKept (kept_of (recounted b t sums reached))
    → reached ≡ reaching b.bar (weight_in (kept_of (recounted b t sums reached))) sums
    → IsBelief (recounted b t sums reached)
reclosed b h t sums reached kept is = record {
  kept = kept;
  powers_are = h.powers_are;
  budget_is = h.budget_is;
  few_runs = h.few_runs;
  reached_is = reached_by (recounted b t sums reached) kept is;
}

-- the weights of the walk are those that are kept
walked_weight : (b : Inside) → IsBelief b → (t : Tallies) (sums : List ℕ) (reached : Option ℕ) (priors : List ℕ) → priors ≡ b.priors.items
    → (P : (ℕ → ℕ) → Type 0) → P (tallied_weight priors b.powers.factors t) → P (weight_in (kept_of (recounted b t sums reached)))
walked_weight b h t sums reached priors same P holds =
    let Q : List ℕ → Type 0 = λ (qs : List ℕ). P (tallied_weight qs b.powers.factors t) in
    let F : Factors → Type 0 = λ (f : Factors). P (tallied_weight b.priors.items f t) in
    subst F (powers-factors b h) (subst Q same holds)

-- where a broken test never passes, no pass is counted
pub never_passed : (b : Inside) → IsBelief b → b.factors.pass_in ≡ 0 → b.tallies.passed ≡ 0
never_passed b h never =
    let all_passes : b.tallies.passed ≡ counted b.tallies.passes.items = b.tallies.all_passes in
    all_passes ∙ h.kept.no_passes never

-- the belief whose sums the walk makes anew
pub walked : (b : Inside) → IsBelief b → (t : Tallies) (sums : List ℕ) (reached : Option ℕ) (priors : List ℕ) → priors ≡ b.priors.items
    → length t.fails.items ≡ length b.tallies.fails.items
    → t.floor < hypotheses (kept_of b).setup → (1 ≤ b.factors.pass_in → t.floor ≡ 0) → (b.factors.pass_in ≡ 0 → t.passed ≡ 0)
    → t.failed + t.passed ≤ run_budget (kept_of b).setup
    → length sums ≡ length b.sums
    → AreSumsOf (tallied_weight priors b.powers.factors t) sums
    → reached ≡ reaching b.bar (tallied_weight priors b.powers.factors t) sums
    → IsBelief (recounted b t sums reached)
walked b h t sums r priors same long low missed none within sums_long are is =
    reclosed b h t sums r
    (recounted_kept b h t sums r long low missed none within sums_long (walked_weight b h t sums r priors same (λ (w : ℕ → ℕ). AreSumsOf w sums) are))
    (walked_weight b h t sums r priors same (λ (w : ℕ → ℕ). r ≡ reaching b.bar w sums) is)
