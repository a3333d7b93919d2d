use Rattle.std.proofs.Common.{sym, ap, ◌∙◌}
use Rattle.farm_entry.specs.History.{opening_numbered}
use Rattle.farm_entry.specs.Standing.{is_active}
use Rattle.farm_state.proofs.Going.{going-none, going-some}
use Rattle.farm_state.proofs.moves.is_going.Goals as goal

pub returns-in-Some : goal.returns-in-Some
returns-in-Some c =
    c.is_active.ensures
    ∙ ap is_active c.standing.ensures
    ∙ going-some c.args.state.now (opening_numbered c.args.state.now c.args.search) c.in-Some.search.now
    (sym c.in-Some.ensures)

pub returns-in-None : goal.returns-in-None
returns-in-None c =
    going-none c.args.state.now (opening_numbered c.args.state.now c.args.search) (sym c.in-None.ensures)
