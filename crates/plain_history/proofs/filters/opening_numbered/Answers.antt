use Rattle.std.proofs.Common.{◌<◌, length, Some, sym, ap, ◌∙◌, arith}
use Rattle.std.specs.Option.{option_copied}
use Rattle.plain_history.proofs.Holding.{held_as}
use Rattle.plain_history.proofs.filters.opening_numbered.Goals as goal

pub returns-in-loop-entry-clause-held : goal.returns-in-loop-entry-clause-held
returns-in-loop-entry-clause-held c =
    let below : c.loop-entry.entry-index < length c.args.history.now = omega arith in
    held_as c.args.history.now c.loop-entry.entry-index c.entry-item.result (Some c.in-Some.opening.now) below c.entry-item.is
    (sym c.opening.ensures ∙ ap option_copied c.in-Some.is)
