use Rattle.std.proofs.Common.{sym, ◌∙◌}
use Rattle.farm_types.specs.Moment.{moment_ms}
use Rattle.farm_state.proofs.DueRuns.{due-searching, due-verifying}
use Rattle.farm_state.proofs.state.FarmState.due.Goals as goal

pub returns-in-Searching : goal.returns-in-Searching
returns-in-Searching c =
    c.due_at.ensures
    ∙ due-searching c.args.self.now c.args.number (moment_ms c.args.moment) c.in-Some.search.now (sym c.in-Some.ensures)
    (sym c.standing.ensures ∙ c.in-Searching.is)

pub returns-in-Verifying : goal.returns-in-Verifying
returns-in-Verifying c =
    c.due_at-in-Verifying.ensures
    ∙ due-verifying c.args.self.now c.args.number (moment_ms c.args.moment) c.in-Verifying.field-0 c.in-Some.search.now
    (sym c.in-Some.ensures) (sym c.standing.ensures ∙ c.in-Verifying.is)
