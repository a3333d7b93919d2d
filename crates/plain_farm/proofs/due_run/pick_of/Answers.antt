use Rattle.std.proofs.Common.{ℕ, List, sym, ap, subst, ◌∙◌}
use Rattle.threshold_pick.specs.CanPick.{CanPick}
use Rattle.threshold_pick.specs.Picks.{open_pick_in}
use Rattle.farm_entry.specs.Standing.{is_searching}
use Rattle.farm_laws.proofs.Standings.{searching-at_bar}
use Rattle.farm_laws.proofs.Beliefs.{can_pick, open_picked}
use Rattle.plain_farm.proofs.Histories.{opened_width}
use Rattle.plain_farm.proofs.due_run.pick_of.Goals as goal

pub open_pick_uncounted-requires-clause-sums : goal.open_pick_uncounted-requires-clause-sums
open_pick_uncounted-requires-clause-sums c =
    let H = c.args.history.now in
    let o = c.args.opening.now in
    let b = c.requires.believed in
    let can =
    can_pick H o c.args.belief.now b.legal b.opened (searching-at_bar H o (ap is_searching c.requires.searching)) b.setup
    b.runs in
    subst (λ (floor : ℕ). CanPick floor c.sums.result.now) (sym c.floor.ensures)
    (subst (λ (sums : List ℕ). CanPick c.args.belief.now.floor sums) (sym c.sums.ensures) can)

pub open_pick_uncounted-requires-clause-narrow : goal.open_pick_uncounted-requires-clause-narrow
open_pick_uncounted-requires-clause-narrow c =
    (opened_width c.args.history.now c.args.opening.now c.requires.believed.legal c.requires.believed.opened).1

pub returns : goal.returns
returns c =
    let b = c.requires.believed in
    c.open_pick_uncounted.ensures
    ∙ ap (λ (sums : List ℕ). open_pick_in sums c.floor.result c.args.skips.now c.args.j c.args.opening.now.width)
    c.sums.ensures
    ∙ ap (λ (n : ℕ). open_pick_in c.args.belief.now.sums n c.args.skips.now c.args.j c.args.opening.now.width)
    c.floor.ensures
    ∙ open_picked c.args.history.now c.args.opening.now c.args.belief.now c.args.skips.now c.args.j b.legal b.opened
    b.setup b.runs
