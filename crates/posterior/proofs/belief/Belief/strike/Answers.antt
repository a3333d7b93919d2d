use Rattle.std.proofs.Common.{◌≡◌, ℕ, ◌+◌, ◌<◌, ◌≤◌, ◌⊎◌, length, arith, sym, ap, ◌∙◌, subst}
use Rattle.weight_exact.specs.Weights.{hypotheses}
use Rattle.posterior.specs.Kept.{Kept, at}
use Rattle.posterior.specs.Counted.{AreCleared}
use Rattle.posterior.specs.Middle.{HasMiddle}
use Rattle.posterior.specs.StandsFor.{StandsFor}
use Rattle.posterior.specs.BeliefInside.{kept_of}
use Rattle.posterior.specs.declared.belief.Belief.TheInside.{Inside}
use Rattle.posterior.specs.declared.tallies.Tallies.{Tallies}
use Rattle.posterior.proofs.InPlace.{has_middle, none_below, kept-rising, IsStruck, struck_weights, struck_kept, multiplied, multiplied_fits}
use Rattle.posterior.proofs.Reclosed.{recounted}
use Rattle.posterior.proofs.Matching.{stands_raised}
use Rattle.posterior.proofs.belief.Belief.strike.Goals as goal

-- what was asked of the view, said of the fields
struck : (k : Kept) (b : Inside) (t : Tallies) (p : ℕ) → kept_of b ≡ k → k.setup.factors.pass_in ≡ 0 → k.floor < p → p < hypotheses k.setup
    → (k.setup.factors.fail_out ≡ 1) ⊎ AreCleared p k.fails → t.floor ≡ p
    → ((q : ℕ) → p < q → at t.fails.items q ≡ at b.tallies.fails.items q) → length t.fails.items ≡ length b.tallies.fails.items
    → t.failed ≤ b.tallies.failed → t.passed ≤ b.tallies.passed → IsStruck b t p
struck k b t p view never above last keeps raised fails long fewer_fails fewer_passes = record {
  never = ap (λ (k : Kept). k.setup.factors.pass_in) view ∙ never;
  above = omega (arith, ap (λ (k : Kept). k.floor) view);
  last = omega (arith, ap (λ (k : Kept). hypotheses k.setup) view);
  keeps = (let P : Kept → Type 0 = λ k. (k.setup.factors.fail_out ≡ 1) ⊎ AreCleared p k.fails in subst P (sym view) keeps);
  raised = raised;
  fails = fails;
  long = long;
  fewer_fails = fewer_fails;
  fewer_passes = fewer_passes;
}

pub multiply-requires-clause-none : goal.multiply-requires-clause-none
multiply-requires-clause-none g c = none_below (kept_of c.self.inside) c.self.invariant.kept

pub multiply-requires-clause-rising : goal.multiply-requires-clause-rising
multiply-requires-clause-rising g c = kept-rising (kept_of c.self.inside) c.self.invariant.kept

pub multiply-requires-clause-room : goal.multiply-requires-clause-room
multiply-requires-clause-room g c =
    let b = c.self.inside in
    let t = c.raise_floor.new.self in
    let r = c.raise_floor.ensures in
    let s = struck c.args.self.now b t c.args.position c.self.view_is c.requires.never c.requires.above c.requires.last c.requires.kept r.floor r.fails (omega (arith, r.length)) r.fewer_fails r.fewer_passes in
    multiplied_fits b c.self.invariant t c.args.position 0 1 (omega (arith, c.requires.above)) s.last s.long
    (omega (arith, r.fewer_fails, r.fewer_passes, c.self.invariant.kept.within)) (struck_weights b c.self.invariant t b.sums b.reached c.args.position s)

pub at_bar-self-inside-requires : goal.at_bar-self-inside-requires
at_bar-self-inside-requires g c =
    let b = c.self.inside in
    let t = c.raise_floor.new.self in
    let r = c.raise_floor.ensures in
    let s = struck c.args.self.now b t c.args.position c.self.view_is c.requires.never c.requires.above c.requires.last c.requires.kept r.floor r.fails (omega (arith, r.length)) r.fewer_fails r.fewer_passes in
    let kept = struck_kept b c.self.invariant t c.multiply.new.self b.reached c.args.position s c.multiply.ensures.length c.multiply.ensures.sums in
    record { middle = subst (λ (f : ℕ). HasMiddle f c.multiply.new.self) r.floor (has_middle (kept_of (recounted b t c.multiply.new.self b.reached)) kept) }

pub invariant_of-self : goal.invariant_of-self
invariant_of-self g c =
    let b = c.self.inside in
    let t = c.raise_floor.new.self in
    let r = c.raise_floor.ensures in
    let s = struck c.args.self.now b t c.args.position c.self.view_is c.requires.never c.requires.above c.requires.last c.requires.kept r.floor r.fails (omega (arith, r.length)) r.fewer_fails r.fewer_passes in
    multiplied b c.self.invariant t c.multiply.new.self c.at_bar-self-inside.result
    (struck_kept b c.self.invariant t c.multiply.new.self c.at_bar-self-inside.result c.args.position s c.multiply.ensures.length c.multiply.ensures.sums) c.at_bar-self-inside.ensures.bar

pub returns-clause-counted : goal.returns-clause-counted
returns-clause-counted g c runs stands =
    let b = c.self.inside in
    let k = kept_of b in
    let t = c.raise_floor.new.self in
    let r = c.raise_floor.ensures in
    let s = struck c.args.self.now b t c.args.position c.self.view_is c.requires.never c.requires.above c.requires.last c.requires.kept r.floor r.fails (omega (arith, r.length)) r.fewer_fails r.fewer_passes in
    let before : StandsFor k runs = subst (λ (k : Kept). StandsFor k runs) (sym c.self.view_is) stands in
    stands_raised k runs c.args.position t.floor (t.failed + t.passed) t.fails.items t.passes.items c.multiply.new.self before s.never s.above s.last
    r.floor r.fails r.passes
    (struck_kept b c.self.invariant t c.multiply.new.self c.at_bar-self-inside.result c.args.position s c.multiply.ensures.length c.multiply.ensures.sums)
