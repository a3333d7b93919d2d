use Rattle.std.proofs.Common.{◌≡◌, ℕ, ◌+◌, ◌-◌, ◌<◌, ◌≤◌, ◌⊎◌, Bool, true, false, not, if◌then◌else◌, List, set, arith, sym, ap, subst}
use Rattle.weight_exact.specs.Weights.{hypotheses}
use Rattle.weight_exact.specs.Load.{is_fail}
use Rattle.weight_exact.specs.Budget.{run_budget}
use Rattle.weight_exact.specs.Factors.{verdict_factor}
use Rattle.weight_exact.specs.declared.run.Verdict.{Verdict}
use Rattle.weight_exact.specs.declared.run.Verdict.TheVariants.{Fail}
use Rattle.posterior.specs.Kept.{Kept, at}
use Rattle.posterior.specs.Middle.{HasMiddle}
use Rattle.posterior.specs.StandsFor.{StandsFor}
use Rattle.posterior.specs.BeliefInside.{kept_of}
use Rattle.posterior.specs.declared.belief.Belief.TheInside.{Inside}
use Rattle.posterior.specs.declared.tallies.Tallies.{Tallies}
use Rattle.posterior.proofs.InPlace.{has_middle, none_below, kept-rising, IsTallied, tallied_weights, tallied_long, tallied_kept, multiplied, multiplied_fits}
use Rattle.posterior.proofs.Reclosed.{recounted}
use Rattle.posterior.proofs.Matching.{stands_counted}
use Rattle.posterior.proofs.belief.Belief.count.Goals as goal

-- what was asked of the view, said of the fields
tallied : (k : Kept) (b : Inside) (t : Tallies) (v : Verdict) (p x y : ℕ) → kept_of b ≡ k → (1 ≤ k.setup.factors.pass_in) ⊎ (v ≡ Fail) → k.floor < p → p < hypotheses k.setup
    → k.load < run_budget k.setup → t.floor ≡ b.tallies.floor
    → t.fails.items ≡ (if is_fail v then set b.tallies.fails.items (p - 1) (at b.tallies.fails.items p + 1) else b.tallies.fails.items)
    → t.passes.items ≡ (if is_fail v then b.tallies.passes.items else set b.tallies.passes.items (p - 1) (at b.tallies.passes.items p + 1))
    → t.failed + t.passed ≡ b.tallies.failed + b.tallies.passed + 1
    → x ≡ verdict_factor b.factors v true → y ≡ verdict_factor b.factors v false → IsTallied b t v p x y
tallied k b t v p x y view live above last room floor fails passes one inside outside = record {
  live = (let P : Kept → Type 0 = λ k. (1 ≤ k.setup.factors.pass_in) ⊎ (v ≡ Fail) in subst P (sym view) live);
  first = omega (arith, above);
  last = omega (arith, ap (λ (k : Kept). hypotheses k.setup) view);
  room = omega (arith, ap (λ (k : Kept). k.load) view, ap (λ (k : Kept). run_budget k.setup) view);
  floor = floor;
  fails = fails;
  passes = passes;
  one = one;
  inside = inside;
  outside = outside;
}

-- the choice turned round
turned : (b : Bool) (xs ys zs : List ℕ) → zs ≡ (if b then xs else ys) → zs ≡ (if not b then ys else xs)
turned true xs ys zs e = e
turned false xs ys zs e = e

pub multiply-requires-clause-none : goal.multiply-requires-clause-none
multiply-requires-clause-none g c = none_below (kept_of c.self.inside) c.self.invariant.kept

pub multiply-requires-clause-rising : goal.multiply-requires-clause-rising
multiply-requires-clause-rising g c = kept-rising (kept_of c.self.inside) c.self.invariant.kept

pub multiply-requires-clause-room : goal.multiply-requires-clause-room
multiply-requires-clause-room g c =
    let b = c.self.inside in
    let t = c.count.new.self in
    let e = c.count.ensures in
    let p = c.args.position in
    let v = c.args.verdict in
    let x = c.of_verdict-inside.result.0 in
    let y = c.of_verdict-inside.result.1 in
    let s = tallied c.args.self.now b t v p x y c.self.view_is c.requires.live c.requires.above c.requires.last c.requires.room e.floor e.fails e.passes e.one c.of_verdict-inside.ensures.inside c.of_verdict-inside.ensures.outside in
    multiplied_fits b c.self.invariant t p x y s.first s.last (tallied_long b t v p x y s) (omega (arith, s.one, s.room)) (tallied_weights b c.self.invariant t b.sums b.reached v p x y s)

pub at_bar-self-inside-requires : goal.at_bar-self-inside-requires
at_bar-self-inside-requires g c =
    let b = c.self.inside in
    let t = c.count.new.self in
    let e = c.count.ensures in
    let p = c.args.position in
    let v = c.args.verdict in
    let x = c.of_verdict-inside.result.0 in
    let y = c.of_verdict-inside.result.1 in
    let s = tallied c.args.self.now b t v p x y c.self.view_is c.requires.live c.requires.above c.requires.last c.requires.room e.floor e.fails e.passes e.one c.of_verdict-inside.ensures.inside c.of_verdict-inside.ensures.outside in
    let kept = tallied_kept b c.self.invariant t c.multiply.new.self b.reached v p x y s c.multiply.ensures.length c.multiply.ensures.sums in
    record { middle = subst (λ (f : ℕ). HasMiddle f c.multiply.new.self) e.floor (has_middle (kept_of (recounted b t c.multiply.new.self b.reached)) kept) }

pub invariant_of-self : goal.invariant_of-self
invariant_of-self g c =
    let b = c.self.inside in
    let t = c.count.new.self in
    let e = c.count.ensures in
    let p = c.args.position in
    let v = c.args.verdict in
    let x = c.of_verdict-inside.result.0 in
    let y = c.of_verdict-inside.result.1 in
    let s = tallied c.args.self.now b t v p x y c.self.view_is c.requires.live c.requires.above c.requires.last c.requires.room e.floor e.fails e.passes e.one c.of_verdict-inside.ensures.inside c.of_verdict-inside.ensures.outside in
    multiplied b c.self.invariant t c.multiply.new.self c.at_bar-self-inside.result
    (tallied_kept b c.self.invariant t c.multiply.new.self c.at_bar-self-inside.result v p x y s c.multiply.ensures.length c.multiply.ensures.sums) c.at_bar-self-inside.ensures.bar

pub returns-clause-counted : goal.returns-clause-counted
returns-clause-counted g c runs stands =
    let b = c.self.inside in
    let t = c.count.new.self in
    let e = c.count.ensures in
    let p = c.args.position in
    let v = c.args.verdict in
    let x = c.of_verdict-inside.result.0 in
    let y = c.of_verdict-inside.result.1 in
    let s = tallied c.args.self.now b t v p x y c.self.view_is c.requires.live c.requires.above c.requires.last c.requires.room e.floor e.fails e.passes e.one c.of_verdict-inside.ensures.inside c.of_verdict-inside.ensures.outside in
    let k = kept_of b in
    let before : StandsFor k runs = subst (λ (k : Kept). StandsFor k runs) (sym c.self.view_is) stands in
    let kept = tallied_kept b c.self.invariant t c.multiply.new.self c.at_bar-self-inside.result v p x y s c.multiply.ensures.length c.multiply.ensures.sums in
    let floor_is : k.floor ≡ c.args.self.now.floor = ap (λ (k : Kept). k.floor) c.self.view_is in
    stands_counted k runs (record { position = p; verdict = v }) t.floor (t.failed + t.passed) t.fails.items t.passes.items c.multiply.new.self
    c.self.invariant.kept before s.live (omega (arith, c.requires.above)) s.last e.floor e.fails
    (turned (is_fail v) k.passes (set k.passes (p - 1) (at k.passes p + 1)) t.passes.items e.passes) kept
