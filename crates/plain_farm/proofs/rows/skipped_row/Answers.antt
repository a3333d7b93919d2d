use Rattle.std.proofs.Common.{◌==◌, not, filter, refl, sym, ap, ◌∙◌}
use Rattle.farm_entry.specs.declared.lease.LeasedRun.{LeasedRun}
use Rattle.plain_farm.proofs.SkipRows.{skip-cancelled, skip-opened, skip-over, skip-positions, skip-reruns, skip-row, skip-runs}
use Rattle.plain_farm.proofs.rows.skipped_row.Goals as goal

pub stand-requires-clause-opened : goal.stand-requires-clause-opened
stand-requires-clause-opened c =
    skip-opened c.args.history.now c.args.opening.now c.args.row.now c.args.lease c.args.skip c.requires

pub stand-requires-clause-runs : goal.stand-requires-clause-runs
stand-requires-clause-runs c =
    skip-runs c.args.history.now c.args.opening.now c.args.row.now c.args.lease c.args.skip c.requires
    c.deref-4.result.now (c.deref-4.ensures.value ∙ c.in_ok-runs.ensures.items ∙ c.deref.ensures.value)

pub stand-requires-clause-skipped : goal.stand-requires-clause-skipped
stand-requires-clause-skipped c =
    skip-positions c.args.history.now c.args.opening.now c.args.row.now c.args.lease c.args.skip c.requires
    c.deref-5.result.now c.in_ok-skipped.skipped.items c.closed_position.result
    (c.deref-5.ensures.value ∙ c.in_ok-push_some.ensures.added) (c.in_ok-skipped.ensures.items ∙ c.deref-3.ensures.value)
    c.closed_position.ensures

pub stand-requires-clause-reruns : goal.stand-requires-clause-reruns
stand-requires-clause-reruns c =
    skip-reruns c.args.history.now c.args.opening.now c.args.row.now c.args.lease c.args.skip c.requires
    c.deref-6.result.now (c.deref-6.ensures.value ∙ c.in_ok-reruns.ensures.items ∙ c.deref-2.ensures.value)

pub stand-requires-clause-cancelled : goal.stand-requires-clause-cancelled
stand-requires-clause-cancelled c =
    sym (skip-cancelled c.args.history.now c.args.opening.now c.args.row.now c.args.lease c.args.skip c.requires)

pub stand-requires-clause-over : goal.stand-requires-clause-over
stand-requires-clause-over c =
    sym (skip-over c.args.history.now c.args.opening.now c.args.row.now c.args.lease c.args.skip c.requires)

pub returns : goal.returns
returns c =
    let H = c.args.history.now in
    let o = c.args.opening.now in
    let row = c.args.row.now in
    let runs_are =
    skip-runs H o row c.args.lease c.args.skip c.requires c.in_ok-runs.runs.items
    (c.in_ok-runs.ensures.items ∙ c.deref.ensures.value) in
    let again_are =
    skip-reruns H o row c.args.lease c.args.skip c.requires c.in_ok-reruns.reruns.items
    (c.in_ok-reruns.ensures.items ∙ c.deref-2.ensures.value) in
    let skips_are =
    skip-positions H o row c.args.lease c.args.skip c.requires c.push_some.new.list.items c.in_ok-skipped.skipped.items
    c.closed_position.result c.in_ok-push_some.ensures.added (c.in_ok-skipped.ensures.items ∙ c.deref-3.ensures.value)
    c.closed_position.ensures in
    skip-row H o row c.args.lease c.args.skip c.requires _ runs_are again_are skips_are refl refl
    c.in_ok-standing.ensures.standing c.in_ok-standing.ensures.planned
    (c.in_ok-unreported.ensures
    ∙ ap (filter (λ (l : LeasedRun). not (c.args.skip.run == l.run))) c.deref-7.ensures.value)
    refl
