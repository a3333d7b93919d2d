use Rattle.std.proofs.Common.{◌≡◌, ◌+◌, List, [], nat_lt, reverse, length, refl, sym, ap, subst, arith}
use Rattle.weight_exact.specs.Weights.{hypotheses}
use Rattle.weight_exact.specs.declared.factors.Factors.{Factors}
use Rattle.weight_exact.specs.declared.run.Run.{Run}
use Rattle.posterior.specs.StandsFor.{StandsFor}
use Rattle.farm_entry.specs.Setup.{setup_of}
use Rattle.farm_laws.proofs.Beliefs.{hypotheses-of}
use Rattle.search_state.specs.Begun.{IsBelieved}
use Rattle.search_state.proofs.Reclosed.{begun-search, follows-along}
use Rattle.search_state.proofs.state.SearchState.start.Goals as goal

pub begun-begun-requires-clause-believed : goal.begun-begun-requires-clause-believed
begun-begun-requires-clause-believed c =
    let o = c.args.opening.now in (
      o,
      [],
      record {
        within = c.requires;
        setup = c.in_ok-belief.ensures.setup;
        stands = c.in_ok-belief.ensures.none;
        bar_is = refl;
        suspects_are = omega (arith, c.len-suspects.ensures.len, hypotheses-of o);
      },
    )

pub invariant_of-result : goal.invariant_of-result
invariant_of-result c =
    let o = c.args.opening.now in
    let none : reverse c.new.result ≡ [] = ap (λ (xs : List Run). reverse xs) c.new.ensures in
    let many : c.len-suspects.result + 1 ≡ hypotheses (setup_of o) = omega (arith, c.len-suspects.ensures.len, hypotheses-of o) in
    let believed : IsBelieved o [] c.in_ok-belief.belief o.bar c.len-suspects.result = record {
      within = c.requires;
      setup = c.in_ok-belief.ensures.setup;
      stands = c.in_ok-belief.ensures.none;
      bar_is = refl;
      suspects_are = many;
    } in
    begun-search o _ c.of.ensures (record {
      set_up = record {
        within = c.requires;
        search_is = refl;
        width_is = refl;
        asked_is = refl;
        bar_is = refl;
        suspects_are = many;
        misses_is = ap (λ (f : Factors). nat_lt 0 f.pass_in) c.of-2.ensures.value;
      };
      setup = c.in_ok-belief.ensures.setup;
      believed = subst (StandsFor c.in_ok-belief.belief) (sym none) c.in_ok-belief.ensures.none;
      counted_is = sym (ap length c.new.ensures);
      verified_is = refl;
      no_reruns = c.new-2.ensures;
      uncancelled = refl;
      within = refl;
      follows = follows-along o [] (reverse c.new.result) _ c.in_ok-belief.belief _ _ _ none
          (c.begun-begun.ensures o [] believed refl refl);
    })
