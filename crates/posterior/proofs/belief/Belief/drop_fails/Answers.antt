use Rattle.std.proofs.Common.{◌≡◌, ◌+◌, arith, sym, ap, ◌∙◌, subst}
use Rattle.weight_exact.specs.Weights.{hypotheses}
use Rattle.posterior.specs.Kept.{Kept}
use Rattle.posterior.specs.StandsFor.{StandsFor}
use Rattle.posterior.specs.BeliefInside.{kept_of, IsBelief}
use Rattle.posterior.proofs.Reclosed.{can_walk, recounted, walked, never_passed}
use Rattle.posterior.proofs.Matching.{stands_raised}
use Rattle.posterior.proofs.belief.Belief.drop_fails.Goals as goal

pub weigh-self-inside-requires : goal.weigh-self-inside-requires
weigh-self-inside-requires g c = record {
  walk = can_walk c.self.inside c.self.invariant c.raise_floor.new.self c.deref.result.now c.deref.ensures.value (omega (arith, c.raise_floor.ensures.length))
      (omega (arith, c.raise_floor.ensures.fewer_fails, c.raise_floor.ensures.fewer_passes, c.self.invariant.kept.within));
}

pub invariant_of-self : goal.invariant_of-self
invariant_of-self g c =
    let size : hypotheses (kept_of c.self.inside).setup ≡ hypotheses c.args.self.now.setup = ap (λ (k : Kept). hypotheses k.setup) c.self.view_is in
    let never : c.self.inside.factors.pass_in ≡ 0 = ap (λ (k : Kept). k.setup.factors.pass_in) c.self.view_is ∙ c.requires.never in
    let none = never_passed c.self.inside c.self.invariant never in
    walked c.self.inside c.self.invariant c.raise_floor.new.self c.weigh-self-inside.new.sums c.weigh-self-inside.result c.deref.result.now c.deref.ensures.value
    (omega (arith, c.raise_floor.ensures.length)) (omega (arith, c.raise_floor.ensures.floor, c.requires.last)) (λ may. absurd (omega (arith, never, may))) (λ _. omega (arith, c.raise_floor.ensures.fewer_passes))
    (omega (arith, c.raise_floor.ensures.fewer_fails, c.raise_floor.ensures.fewer_passes, c.self.invariant.kept.within))
    c.weigh-self-inside.ensures.length c.weigh-self-inside.ensures.sums c.weigh-self-inside.ensures.reached

pub returns-clause-counted : goal.returns-clause-counted
returns-clause-counted g c runs stands =
    let size : hypotheses (kept_of c.self.inside).setup ≡ hypotheses c.args.self.now.setup = ap (λ (k : Kept). hypotheses k.setup) c.self.view_is in
    let never : c.self.inside.factors.pass_in ≡ 0 = ap (λ (k : Kept). k.setup.factors.pass_in) c.self.view_is ∙ c.requires.never in
    let none = never_passed c.self.inside c.self.invariant never in
    let now : IsBelief (recounted c.self.inside c.raise_floor.new.self c.weigh-self-inside.new.sums c.weigh-self-inside.result) =
    walked c.self.inside c.self.invariant c.raise_floor.new.self c.weigh-self-inside.new.sums c.weigh-self-inside.result c.deref.result.now c.deref.ensures.value
    (omega (arith, c.raise_floor.ensures.length)) (omega (arith, c.raise_floor.ensures.floor, c.requires.last)) (λ may. absurd (omega (arith, never, may))) (λ _. omega (arith, c.raise_floor.ensures.fewer_passes))
    (omega (arith, c.raise_floor.ensures.fewer_fails, c.raise_floor.ensures.fewer_passes, c.self.invariant.kept.within))
    c.weigh-self-inside.ensures.length c.weigh-self-inside.ensures.sums c.weigh-self-inside.ensures.reached in
    let k = kept_of c.self.inside in
    let before : StandsFor k runs = subst (λ (k : Kept). StandsFor k runs) (sym c.self.view_is) stands in
    let floor_is : k.floor ≡ c.args.self.now.floor = ap (λ (k : Kept). k.floor) c.self.view_is in
    let t = c.raise_floor.new.self in
    stands_raised k runs c.args.position t.floor (t.failed + t.passed) t.fails.items t.passes.items c.weigh-self-inside.new.sums before never (omega (arith, c.requires.above)) (omega (arith, c.requires.last))
    c.raise_floor.ensures.floor c.raise_floor.ensures.fails c.raise_floor.ensures.passes now.kept
