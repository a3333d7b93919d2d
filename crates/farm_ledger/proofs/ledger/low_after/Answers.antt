use Rattle.std.proofs.Common.{sym, ◌∙◌}
use Rattle.farm_ledger.proofs.Served.{waiting-opened}
use Rattle.farm_ledger.proofs.ledger.low_after.Goals as goal

pub overflow_sub-lease : goal.overflow_sub-lease
overflow_sub-lease c =
    waiting-opened c.args.register.now c.in-Some-lease_of.lease.search c.in-Some-waiting.field-0 c.requires
    (sym c.waiting.ensures ∙ c.in-Some-waiting.is)
