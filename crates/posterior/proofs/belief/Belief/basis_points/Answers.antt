use Rattle.std.proofs.Common.{◌≡◌, ℕ, ◌-◌, ◌≤◌, slice_index, ◌∙◌, subst, sym, ap, arith}
use Rattle.weight_exact.specs.Weights.{hypotheses}
use Rattle.weight_exact.specs.Share.{basis_points}
use Rattle.posterior.specs.Kept.{Kept, whole}
use Rattle.posterior.specs.StandsFor.{StandsFor}
use Rattle.posterior.specs.BeliefFacts.{weight_in}
use Rattle.posterior.specs.BeliefInside.{kept_of}
use Rattle.posterior.proofs.Stands.{whole_positive}
use Rattle.posterior.proofs.Readers.{sums-rise, weight_in-is, weight_in-le-whole, whole_fits, share-in}
use Rattle.posterior.proofs.belief.Belief.basis_points.Goals as goal

-- a hypothesis of what is seen is one of the fields'
within : (k now : Kept) (i : ℕ) → k ≡ now → i ≤ hypotheses now.setup → i ≤ hypotheses k.setup
within k now i e last = subst (λ (k : Kept). i ≤ hypotheses k.setup) (sym e) last

pub weight_at-weight-requires-clause-rises : goal.weight_at-weight-requires-clause-rises
weight_at-weight-requires-clause-rises c =
    let k = kept_of c.self.inside in
    let last = within k c.args.self.now c.args.i c.self.view_is c.requires.last in
    sums-rise k c.self.invariant.kept c.args.i c.requires.first last

-- what was read is the weight of the hypothesis
weight_is : (c : goal.After-total) → c.weight_at-weight.result ≡ weight_in (kept_of c.self.inside) c.args.i
weight_is c =
    let k = kept_of c.self.inside in
    let last = within k c.args.self.now c.args.i c.self.view_is c.requires.last in
    weight_in-is k c.self.invariant.kept c.args.i c.weight_at-weight.result c.requires.first last
    c.weight_at-weight.ensures.first c.weight_at-weight.ensures.next

-- and the whole
whole_is : (c : goal.After-total) → c.total.result ≡ whole (kept_of c.self.inside)
whole_is c =
    let k = kept_of c.self.inside in
    c.total.ensures ∙ ap (λ (n : ℕ). slice_index k.sums (n - 1)) c.self.invariant.kept.as_many_sums

pub share_of-requires-clause-some : goal.share_of-requires-clause-some
share_of-requires-clause-some c =
    omega (arith, whole_is c, whole_positive (kept_of c.self.inside) c.self.invariant.kept)

pub share_of-requires-clause-part : goal.share_of-requires-clause-part
share_of-requires-clause-part c =
    let k = kept_of c.self.inside in
    let last = within k c.args.self.now c.args.i c.self.view_is c.requires.last in
    let part = weight_in-le-whole k c.self.invariant.kept c.args.i c.requires.first last in
    omega (arith, weight_is c, whole_is c, part)

pub share_of-requires-clause-room : goal.share_of-requires-clause-room
share_of-requires-clause-room c =
    omega (arith, whole_is c, whole_fits (kept_of c.self.inside) c.self.invariant.kept)

pub returns : goal.returns
returns c runs stands =
    let k = kept_of c.self.inside in
    let e : k ≡ c.args.self.now = c.self.view_is in
    let h : StandsFor k runs = subst (λ (k : Kept). StandsFor k runs) (sym e) stands in
    let last = within k c.args.self.now c.args.i e c.requires.last in
    let share = share-in k runs c.self.invariant.kept h c.args.i c.requires.first last in
    c.share_of.ensures
    ∙ rw (weight_is c.before, whole_is c.before) (share ∙ ap (λ (k : Kept). basis_points k.setup runs c.args.i) e)
