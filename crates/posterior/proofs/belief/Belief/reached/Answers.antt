use Rattle.std.proofs.Common.{◌≡◌, ◌∙◌, subst, sym, ap}
use Rattle.weight_exact.specs.Share.{reached}
use Rattle.posterior.specs.Kept.{Kept}
use Rattle.posterior.specs.StandsFor.{StandsFor}
use Rattle.posterior.specs.BeliefInside.{kept_of}
use Rattle.posterior.proofs.Readers.{reached_in-is}
use Rattle.posterior.proofs.belief.Belief.reached.Goals as goal

pub returns : goal.returns
returns c runs stands =
    let e : kept_of c.self.inside ≡ c.args.self.now = c.self.view_is in
    let h : StandsFor (kept_of c.self.inside) runs = subst (λ (k : Kept). StandsFor k runs) (sym e) stands in
    c.self.invariant.reached_is ∙ (reached_in-is (kept_of c.self.inside) runs c.self.invariant.kept h ∙ ap (λ (k : Kept). reached k.setup runs) e)
