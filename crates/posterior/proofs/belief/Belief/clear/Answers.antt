use Rattle.std.proofs.Common.{arith}
use Rattle.posterior.specs.BeliefInside.{kept_of, IsBelief}
use Rattle.posterior.proofs.Reclosed.{can_walk, recounted, walked}
use Rattle.posterior.proofs.Matching.{stands_empty}
use Rattle.posterior.proofs.belief.Belief.clear.Goals as goal

pub weigh_uncounted-self-inside-requires : goal.weigh_uncounted-self-inside-requires
weigh_uncounted-self-inside-requires c = record {
  walk = can_walk c.self.inside c.self.invariant c.clear.new.self c.deref.result.now c.deref.ensures.value (omega (arith, c.clear.ensures.length)) (omega (arith, c.clear.ensures.none));
}

-- the belief that `clear` leaves
cleared : (c : goal.After-self-1) → IsBelief (recounted c.self.inside c.clear.new.self c.weigh_uncounted-self-inside.new.sums c.weigh_uncounted-self-inside.result)
cleared c =
    walked c.self.inside c.self.invariant c.clear.new.self c.weigh_uncounted-self-inside.new.sums c.weigh_uncounted-self-inside.result c.deref.result.now c.deref.ensures.value
    (omega (arith, c.clear.ensures.length)) (omega (arith, c.clear.ensures.floor, c.self.invariant.kept.some_suspect)) (λ _. c.clear.ensures.floor) (λ _. omega (arith, c.clear.ensures.none)) (omega (arith, c.clear.ensures.none))
    c.weigh_uncounted-self-inside.ensures.length c.weigh_uncounted-self-inside.ensures.sums c.weigh_uncounted-self-inside.ensures.reached

pub invariant_of-self : goal.invariant_of-self
invariant_of-self c = cleared c

pub returns-clause-empty : goal.returns-clause-empty
returns-clause-empty c =
    let b = recounted c.self.inside c.clear.new.self c.weigh_uncounted-self-inside.new.sums c.weigh_uncounted-self-inside.result in
    let is = (cleared c).kept in
    let long = c.clear.ensures.length in
    stands_empty (kept_of b) is c.clear.ensures.floor
    (λ p low high. c.clear.ensures.fails p low (omega (arith, is.as_many_fails)))
    (λ p low high. c.clear.ensures.passes p low (omega (arith, is.as_many_fails)))
