use Rattle.std.proofs.Common.{sym, ◌∙◌}
use Rattle.farm_entry.specs.History.{opening_in}
use Rattle.farm_state.proofs.Searches.{opened-some, neither-told}
use Rattle.farm_state.proofs.state.FarmState.push.Goals as goal

pub push_opening-requires-clause-opens : goal.push_opening-requires-clause-opens
push_opening-requires-clause-opens c =
    opened-some (opening_in c.args.entry.what) (sym c.is_opening.ensures ∙ c.if-is_opening.true)

pub push_quiet-requires-clause-reports_none : goal.push_quiet-requires-clause-reports_none
push_quiet-requires-clause-reports_none c =
    neither-told c.args.entry.what (sym c.report.ensures ∙ c.in_default.is) (sym c.skip.ensures ∙ c.in_default-skip.is)
