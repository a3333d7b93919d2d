use Rattle.std.proofs.Common.{◌≡◌, suc, false, List, [], ◌∷◌, ◌++◌, reverse, length, refl, sym, ap, subst, ◌∙◌, arith}
use Rattle.weight_exact.specs.declared.run.Run.{Run}
use Rattle.posterior.specs.StandsFor.{StandsFor}
use Rattle.search_state.specs.Begun.{IsBelieved}
use Rattle.search_state.specs.SearchInside.{search_view}
use Rattle.search_state.specs.SearchView.{SearchView, passes_budget}
use Rattle.search_state.proofs.Reclosed.{begun-search, follows-along, kept-searching, reverse-told, run-counts}
use Rattle.search_state.proofs.state.SearchState.count_run.Goals as goal

pub begun-begun-requires-clause-believed : goal.begun-begun-requires-clause-believed
begun-begun-requires-clause-believed c =
    let s = c.self.inside in
    let o = s.opening.value in
    let runs : List Run = reverse s.runs in
    let h = c.self.invariant in
    let noted = c.note_uncounted-noted in
    let within : passes_budget (search_view s) c.args.run ≡ false =
    subst (λ (v : SearchView). passes_budget v c.args.run ≡ false) (sym c.self.view_is) c.requires.within in
    let counts = run-counts o s.belief.setup runs c.args.run noted.result h.setup within
    (λ over. (noted.ensures.over runs h.believed).0 over) in (
      o,
      runs ++ c.args.run ∷ [],
      record {
        within = h.set_up.within;
        setup = noted.ensures.setup ∙ h.setup;
        stands = noted.ensures.counted runs h.believed counts;
        bar_is = h.set_up.bar_is;
        suspects_are = h.set_up.suspects_are;
      },
    )

pub invariant_of-self : goal.invariant_of-self
invariant_of-self c =
    let s = c.self.inside in
    let o = s.opening.value in
    let runs : List Run = reverse s.runs in
    let h = c.self.invariant in
    let noted = c.note_uncounted-noted in
    let more : List Run = runs ++ c.args.run ∷ [] in
    let within : passes_budget (search_view s) c.args.run ≡ false =
    subst (λ (v : SearchView). passes_budget v c.args.run ≡ false) (sym c.self.view_is) c.requires.within in
    let counts = run-counts o s.belief.setup runs c.args.run noted.result h.setup within
    (λ over. (noted.ensures.over runs h.believed).0 over) in
    let believed : IsBelieved o more noted.new.self s.bar s.suspects = record {
      within = h.set_up.within;
      setup = noted.ensures.setup ∙ h.setup;
      stands = noted.ensures.counted runs h.believed counts;
      bar_is = h.set_up.bar_is;
      suspects_are = h.set_up.suspects_are;
    } in
    let told : reverse c.tell.new.self ≡ more = reverse-told c.tell.new.self s.runs c.args.run c.tell.ensures in
    let parts = kept-searching s c.args.self.now c.self.view_is c.requires.searching in
    let none = h.none_yet parts.none in
    let long : length c.tell.new.self ≡ suc (length s.runs) = ap length c.tell.ensures in
    begun-search o _ refl (record {
      set_up = h.set_up;
      setup = believed.setup;
      believed = subst (StandsFor noted.new.self) (sym told) believed.stands;
      counted_is = omega (arith, long, h.counted_is);
      verified_is = h.verified_is ∙ ap length none;
      no_reruns = none;
      uncancelled = parts.uncancelled;
      within = parts.within;
      follows = follows-along o more (reverse c.tell.new.self) s.skips noted.new.self _ _ _ told
          (c.begun-begun.ensures o more believed h.set_up.width_is h.set_up.asked_is);
    })
