use Rattle.std.proofs.Common.{◌≡◌, ℕ, ◌+◌, List, [], ◌∷◌, ◌++◌, length, sum, arith, sym, ap, ◌∙◌, subst}
use Rattle.std.proofs.lemmas.List.{length-append, length-replicate}
use Rattle.weight_exact.specs.Factors.{factors_of}
use Rattle.weight_exact.specs.Budget.{Fits, budget_of}
use Rattle.weight_exact.specs.Powers.{PowersOf}
use Rattle.posterior.specs.Kept.{at}
use Rattle.posterior.specs.BeliefInside.{kept_of, IsBelief}
use Rattle.posterior.specs.declared.belief.Belief.TheInside.{Inside}
use Rattle.posterior.proofs.Counting.{at-zeros}
use Rattle.weight_exact.proofs.Priors.{priors-total}
use Rattle.posterior.proofs.Begun.{begun_walk, begun}
use Rattle.posterior.proofs.Matching.{stands_empty}
use Rattle.posterior.proofs.belief.Belief.start.Goals as goal

pub budget-budget-requires-clause-at_most : goal.budget-budget-requires-clause-at_most
budget-budget-requires-clause-at_most c =
    let total = priors-total c.args.weights.now c.args.calm c.requires.priors in
    let items : c.prior_total.result ≡ sum (c.args.weights.now ++ c.args.calm ∷ []) = c.prior_total.ensures ∙ ap sum (c.deref.ensures.value ∙ c.in_ok-priors.ensures) in
    omega (arith, total.0, total.1)

pub weigh_uncounted-reached-requires : goal.weigh_uncounted-reached-requires
weigh_uncounted-reached-requires c =
    let f = factors_of c.args.rate c.args.miss in
    let total : c.prior_total.result ≡ sum c.deref-2.result.now = c.prior_total.ensures ∙ ap sum (c.deref.ensures.value ∙ sym c.deref-2.ensures.value) in
    let N : ℕ → Type 0 = λ n. Fits n f c.budget-budget.result in
    let B : ℕ → Type 0 = λ n. Fits (sum c.deref-2.result.now) f n in
    let budget : c.in_ok-powers.powers.budget ≡ c.budget-budget.result = ap (λ (p : PowersOf). p.budget) c.in_ok-powers.ensures in
    record {
      walk = begun_walk c.args.weights.now c.args.calm c.args.rate c.args.miss c.deref-2.result.now c.in_ok-powers.powers c.in_ok-tallies.tallies c.in_ok-sums.sums
          c.requires.priors (c.deref-2.ensures.value ∙ c.in_ok-priors.ensures) (ap (λ (p : PowersOf). p.factors) c.in_ok-powers.ensures)
          (subst B (sym budget) (subst N total c.budget-budget.ensures.fits))
          (ap length c.in_ok-tallies.ensures.fails ∙ length-replicate (length c.args.weights.now) (let z : ℕ = 0 in z)) c.in_ok-tallies.ensures.none
          (ap length c.in_ok-sums.ensures ∙ length-replicate (length c.args.weights.now + 1) (let z : ℕ = 0 in z));
    }

-- the belief that `start` makes
made : (c : goal.After-of-2) → IsBelief (record {
  priors = c.in_ok-priors.priors;
  factors = c.of-2.result;
  bar = c.args.bar;
  powers = c.in_ok-powers.powers;
  budget = c.budget-budget.result;
  tallies = c.in_ok-tallies.tallies;
  sums = c.weigh_uncounted-reached.new.sums;
  reached = c.weigh_uncounted-reached.result;
})
made c =
    let f = factors_of c.args.rate c.args.miss in
    let total : c.prior_total.result ≡ sum c.in_ok-priors.priors.items = c.prior_total.ensures ∙ ap sum c.deref.ensures.value in
    let size : length c.in_ok-priors.priors.items ≡ length c.args.weights.now + 1 = ap length c.in_ok-priors.ensures ∙ omega (arith, length-append c.args.weights.now (c.args.calm ∷ [])) in
    let room : length c.in_ok-sums.sums ≡ length c.args.weights.now + 1 = ap length c.in_ok-sums.ensures ∙ length-replicate (length c.args.weights.now + 1) (let z : ℕ = 0 in z) in
    let fails : length c.in_ok-tallies.tallies.fails.items ≡ length c.args.weights.now = ap length c.in_ok-tallies.ensures.fails ∙ length-replicate (length c.args.weights.now) (let z : ℕ = 0 in z) in
    let N : ℕ → Type 0 = λ n. Fits n f c.budget-budget.result in
    begun (record {
      priors = c.in_ok-priors.priors;
      factors = c.of-2.result;
      bar = c.args.bar;
      powers = c.in_ok-powers.powers;
      budget = c.budget-budget.result;
      tallies = c.in_ok-tallies.tallies;
      sums = c.weigh_uncounted-reached.new.sums;
      reached = c.weigh_uncounted-reached.result;
    }) c.args.weights.now c.args.calm c.args.rate c.args.miss c.in_ok-priors.ensures c.requires.priors c.of-2.ensures.value c.in_ok-powers.ensures
    (c.budget-budget.ensures.value ∙ ap (λ (n : ℕ). budget_of n f) total) (subst N total c.budget-budget.ensures.fits) c.budget-budget.ensures.highest
    fails c.in_ok-tallies.ensures.floor c.in_ok-tallies.ensures.none (omega (arith, c.weigh_uncounted-reached.ensures.length, room, size))
    c.deref-2.result.now c.deref-2.ensures.value c.weigh_uncounted-reached.ensures.sums c.weigh_uncounted-reached.ensures.reached

pub invariant_of-result : goal.invariant_of-result
invariant_of-result c = made c

pub returns-clause-empty : goal.returns-clause-empty
returns-clause-empty c =
    let b : Inside = record {
      priors = c.in_ok-priors.priors;
      factors = c.of-2.result;
      bar = c.args.bar;
      powers = c.in_ok-powers.powers;
      budget = c.budget-budget.result;
      tallies = c.in_ok-tallies.tallies;
      sums = c.weigh_uncounted-reached.new.sums;
      reached = c.weigh_uncounted-reached.result;
    } in
    stands_empty (kept_of b) (made c).kept c.in_ok-tallies.ensures.floor
    (λ p low high. ap (λ (xs : List ℕ). at xs p) c.in_ok-tallies.ensures.fails ∙ at-zeros (length c.args.weights.now) p)
    (λ p low high. ap (λ (xs : List ℕ). at xs p) c.in_ok-tallies.ensures.passes ∙ at-zeros (length c.args.weights.now) p)
