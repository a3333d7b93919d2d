use Rattle.std.proofs.Common.{◌<◌, List, length, subst}
use Rattle.plain_farm.specs.declared.rows.Row.{Row}
use Rattle.plain_farm.proofs.Steps.{step-cancelled, step-cancelled_none}
use Rattle.plain_farm.proofs.Taking.{HasNoRow}
use Rattle.plain_farm.proofs.rows.take_cancelled.Goals as goal

pub returns-in-Some : goal.returns-in-Some
returns-in-Some c =
    let at = c.in-Some.ensures.found in
    let below = subst (λ (rows : List Row). c.in-Some.index < length rows) c.deref.ensures.value at.1 in
    step-cancelled c.args.history.now c.args.entry.now c.args.rows.now.items c.requires.step c.args.search
    c.requires.cancelled c.in-Some.index c.index_mut.result.now c.cancel_row.new.row at.0 below c.index_mut.ensures.value
    c.cancel_row.ensures

pub returns-in_default : goal.returns-in_default
returns-in_default c =
    step-cancelled_none c.args.history.now c.args.entry.now c.args.rows.now.items c.requires.step c.args.search
    c.requires.cancelled
    (subst (λ (rows : List Row). HasNoRow rows c.args.search) c.deref.ensures.value c.in_default.ensures.none)
