use Rattle.std.proofs.Common.{◌≡◌, ℕ, List, reverse, sym, ap, subst, ◌∙◌}
use Rattle.threshold_pick.specs.Open.{open_pick}
use Rattle.threshold_pick.specs.CanPick.{CanPick}
use Rattle.threshold_pick.specs.Picks.{open_pick_in}
use Rattle.farm_entry.specs.Setup.{setup_of}
use Rattle.farm_entry.specs.declared.standing.Standing.TheVariants.{Searching}
use Rattle.farm_laws.proofs.Beliefs.{belief-can_pick, belief-picks}
use Rattle.search_state.specs.SearchInside.{search_view}
use Rattle.search_state.specs.SearchView.{SearchView, standing_in}
use Rattle.search_state.proofs.Reclosed.{kept-belief, kept-searching}
use Rattle.search_state.proofs.state.SearchState.pick.Goals as goal

pub open_pick_uncounted-requires-clause-sums : goal.open_pick_uncounted-requires-clause-sums
open_pick_uncounted-requires-clause-sums c =
    let s = c.self.inside in
    let none = (kept-searching s c.args.self.now c.self.view_is c.requires.searching).none in
    let can = belief-can_pick s.opening.value (reverse s.runs) s.belief (kept-belief s c.self.invariant) none in
    subst (λ (floor : ℕ). CanPick floor c.sums.result.now) (sym c.floor.ensures)
    (subst (λ (sums : List ℕ). CanPick s.belief.floor sums) (sym c.sums.ensures) can)

-- the first one, which is kept
pub returns-then-j-eq1 : goal.returns-then-j-eq1
returns-then-j-eq1 c =
    let s = c.self.inside in
    let o = s.opening.value in
    let h = c.self.invariant in
    let searching : standing_in (search_view s) ≡ Searching =
    subst (λ (v : SearchView). standing_in v ≡ Searching) (sym c.self.view_is) c.requires.searching in
    h.planned (h.standing_is ∙ searching)
    ∙ ap (λ (j : ℕ). open_pick_in s.belief.sums s.belief.floor s.skips j o.width) (sym c.if-j-eq1.true)
    ∙ belief-picks o (reverse s.runs) s.belief s.skips c.args.j (kept-belief s h)
    ∙ ap (λ (v : SearchView). open_pick (setup_of v.opening) v.runs v.skipped v.opening.width c.args.j) c.self.view_is

pub returns : goal.returns
returns c =
    let s = c.self.inside in
    let o = s.opening.value in
    let h = c.self.invariant in
    let j = c.args.j in
    c.open_pick_uncounted.ensures
    ∙ ap (λ (sums : List ℕ). open_pick_in sums c.floor.result s.skips j s.width) c.sums.ensures
    ∙ ap (λ (floor : ℕ). open_pick_in s.belief.sums floor s.skips j s.width) c.floor.ensures
    ∙ ap (λ (width : ℕ). open_pick_in s.belief.sums s.belief.floor s.skips j width) h.set_up.width_is
    ∙ belief-picks o (reverse s.runs) s.belief s.skips j (kept-belief s h)
    ∙ ap (λ (v : SearchView). open_pick (setup_of v.opening) v.runs v.skipped v.opening.width j) c.self.view_is
