use Rattle.std.proofs.Common.{◌<◌, reverse, length, refl, sym, ap, subst, ◌∙◌, arith}
use Rattle.weight_exact.specs.Weights.{hypotheses}
use Rattle.farm_entry.specs.Setup.{setup_of}
use Rattle.search_state.specs.SearchView.{SearchView}
use Rattle.search_state.proofs.Deciding.{few-suspects}
use Rattle.search_state.proofs.Reclosed.{begun-search, believed, kept-searching}
use Rattle.search_state.proofs.state.SearchState.skip_searching.Goals as goal

pub skip-requires : goal.skip-requires
skip-requires c =
    let o = c.self.inside.opening.value in
    let set_up = c.self.invariant.set_up in
    let last : c.args.position < hypotheses (setup_of o) =
    subst (λ (v : SearchView). c.args.position < hypotheses (setup_of v.opening)) (sym c.self.view_is) c.requires.last in
    omega (arith, last, set_up.suspects_are, few-suspects o c.self.inside.suspects set_up.within set_up.suspects_are)

pub begun-begun-requires-clause-believed : goal.begun-begun-requires-clause-believed
begun-begun-requires-clause-believed c =
    let s = c.self.inside in (s.opening.value, reverse s.runs, believed s c.self.invariant)

pub invariant_of-self : goal.invariant_of-self
invariant_of-self c =
    let s = c.self.inside in
    let o = s.opening.value in
    let h = c.self.invariant in
    let parts = kept-searching s c.args.self.now c.self.view_is c.requires.searching in
    let none = h.none_yet parts.none in
    begun-search o _ refl (record {
      set_up = h.set_up;
      setup = h.setup;
      believed = h.believed;
      counted_is = h.counted_is;
      verified_is = h.verified_is ∙ ap length none;
      no_reruns = none;
      uncancelled = parts.uncancelled;
      within = parts.within;
      follows = c.begun-begun.ensures o (reverse s.runs) (believed s h) h.set_up.width_is h.set_up.asked_is;
    })
