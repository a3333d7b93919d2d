use Rattle.std.proofs.Common.{sym, ◌∙◌}
use Rattle.farm_state.proofs.telling.tell_report.Goals as goal

pub report-requires-clause-few : goal.report-requires-clause-few
report-requires-clause-few c =
    (c.requires c.in-Some.lease (sym c.lease_of.ensures ∙ c.in-Some.is) c.if-lease-search.true).few
