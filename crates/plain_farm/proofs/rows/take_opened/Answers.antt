use Rattle.std.proofs.Common.{◌≡◌, ◌+◌, List, length, vec_len, sym, subst, arith}
use Rattle.farm_types.specs.declared.stage.Stage.TheVariants.{Search, Verify}
use Rattle.plain_farm.specs.Rows.{AreRows}
use Rattle.plain_farm.specs.declared.rows.Row.{Row}
use Rattle.plain_farm.proofs.Steps.{opened-fresh, opened-there, opened-unskipped, step-opened, step-unopened}
use Rattle.plain_farm.proofs.rows.take_opened.Goals as goal

pub first_row-requires-clause-opened : goal.first_row-requires-clause-opened
first_row-requires-clause-opened c =
    opened-there c.args.history.now c.args.entry.now c.args.rows.now.items c.requires.step c.args.opening.now
    c.requires.opened

pub first_row-requires-clause-no_runs : goal.first_row-requires-clause-no_runs
first_row-requires-clause-no_runs c =
    opened-fresh c.args.history.now c.args.entry.now c.args.rows.now.items c.requires.step c.args.opening.now
    c.requires.opened Search

pub first_row-requires-clause-no_reruns : goal.first_row-requires-clause-no_reruns
first_row-requires-clause-no_reruns c =
    opened-fresh c.args.history.now c.args.entry.now c.args.rows.now.items c.requires.step c.args.opening.now
    c.requires.opened Verify

pub first_row-requires-clause-no_skips : goal.first_row-requires-clause-no_skips
first_row-requires-clause-no_skips c =
    opened-unskipped c.args.history.now c.args.entry.now c.args.rows.now.items c.requires.step c.args.opening.now
    c.requires.opened

pub returns-in_ok-push : goal.returns-in_ok-push
returns-in_ok-push c =
    let rows = c.args.rows.now.items in
    let count : vec_len c.args.rows.now ≡ length rows = omega arith in
    let next : length rows + 1 ≡ c.args.opening.now.search = omega (arith, count, c.len.ensures, c.if-len-opening.true) in
    subst (λ (now : List Row). AreRows c.args.history.now now) (sym c.in_ok-push.ensures.items)
    (step-opened c.args.history.now c.args.entry.now rows c.requires.step c.args.opening.now c.requires.opened
    c.in_ok-first_row.field-0 next c.in_ok-first_row.ensures)

pub returns-else-len-opening : goal.returns-else-len-opening
returns-else-len-opening c =
    step-unopened c.args.history.now c.args.entry.now c.args.rows.now.items c.requires.step c.args.opening.now
    c.requires.opened
