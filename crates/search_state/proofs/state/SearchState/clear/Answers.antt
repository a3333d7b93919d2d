use Rattle.std.proofs.Common.{◌≡◌, List, [], reverse, length, refl, sym, ap, subst, ◌∙◌}
use Rattle.weight_exact.specs.declared.run.Run.{Run}
use Rattle.posterior.specs.StandsFor.{StandsFor}
use Rattle.search_state.specs.Begun.{IsBelieved}
use Rattle.search_state.proofs.Reclosed.{begun-search, follows-along}
use Rattle.search_state.proofs.state.SearchState.clear.Goals as goal

pub begun-begun-requires-clause-believed : goal.begun-begun-requires-clause-believed
begun-begun-requires-clause-believed c =
    let set_up = c.self.invariant.set_up in (
      c.self.inside.opening.value,
      [],
      record {
        within = set_up.within;
        setup = c.clear.ensures.setup ∙ c.self.invariant.setup;
        stands = c.clear.ensures.empty;
        bar_is = set_up.bar_is;
        suspects_are = set_up.suspects_are;
      },
    )

pub invariant_of-self : goal.invariant_of-self
invariant_of-self c =
    let o = c.self.inside.opening.value in
    let none : reverse c.new.result ≡ [] = ap (λ (xs : List Run). reverse xs) c.new.ensures in
    let set_up = c.self.invariant.set_up in
    let setup = c.clear.ensures.setup ∙ c.self.invariant.setup in
    let believed : IsBelieved o [] c.clear.new.self c.self.inside.bar c.self.inside.suspects = record {
      within = set_up.within;
      setup = setup;
      stands = c.clear.ensures.empty;
      bar_is = set_up.bar_is;
      suspects_are = set_up.suspects_are;
    } in
    begun-search o _ refl (record {
      set_up = set_up;
      setup = setup;
      believed = subst (StandsFor c.clear.new.self) (sym none) c.clear.ensures.empty;
      counted_is = sym (ap length c.new.ensures);
      verified_is = refl;
      no_reruns = c.new-2.ensures;
      uncancelled = refl;
      within = refl;
      follows = follows-along o [] (reverse c.new.result) _ c.clear.new.self _ _ _ none
          (c.begun-begun.ensures o [] believed set_up.width_is set_up.asked_is);
    })
