use Rattle.std.proofs.Common.{sym}
use Rattle.plain_farm.proofs.Steps.{step-quiet}
use Rattle.plain_farm.proofs.rows.take_entry.Goals as goal

pub returns-in_default-cancelled : goal.returns-in_default-cancelled
returns-in_default-cancelled c =
    step-quiet c.args.history.now c.args.entry.now c.args.rows.now.items c.requires (sym c.in_default.ensures)
    (sym c.in_default-lease.ensures) (sym c.in_default-report.ensures) (sym c.in_default-skip.ensures)
    (sym c.in_default-cancelled.ensures)
