use Rattle.std.proofs.Common.{sym, ◌∙◌}
use Rattle.farm_state.proofs.telling.tell.Goals as goal

pub tell_report-requires : goal.tell_report-requires
tell_report-requires c = λ l known same.
    c.requires.reports c.in-Some.report l (sym c.report.ensures ∙ c.in-Some.is) known same

pub tell_skip-requires : goal.tell_skip-requires
tell_skip-requires c = λ l known same.
    c.requires.skips c.in-Some-skip.skip l (sym c.skip.ensures ∙ c.in-Some-skip.is) known same
