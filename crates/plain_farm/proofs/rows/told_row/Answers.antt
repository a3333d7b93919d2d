use Rattle.std.proofs.Common.{◌==◌, not, filter, refl, sym, ap, ◌∙◌}
use Rattle.farm_entry.specs.declared.lease.LeasedRun.{LeasedRun}
use Rattle.plain_farm.proofs.Reports.{still-opened, told-cancelled, told-over, told-reruns, told-row, told-runs, told-skipped}
use Rattle.plain_farm.proofs.rows.told_row.Goals as goal

pub stand-requires-clause-opened : goal.stand-requires-clause-opened
stand-requires-clause-opened c =
    still-opened c.args.history.now c.args.opening.now c.args.row.now c.args.lease c.args.report c.requires

pub stand-requires-clause-runs : goal.stand-requires-clause-runs
stand-requires-clause-runs c =
    told-runs c.args.history.now c.args.opening.now c.args.row.now c.args.lease c.args.report c.requires
    c.deref-4.result.now c.in_ok-runs.runs.items c.told_run.result
    (c.deref-4.ensures.value ∙ c.in_ok-push_some.ensures.added) (c.in_ok-runs.ensures.items ∙ c.deref.ensures.value)
    c.told_run.ensures

pub stand-requires-clause-skipped : goal.stand-requires-clause-skipped
stand-requires-clause-skipped c =
    told-skipped c.args.history.now c.args.opening.now c.args.row.now c.args.lease c.args.report c.requires
    c.deref-5.result.now (c.deref-5.ensures.value ∙ c.in_ok-skipped.ensures.items ∙ c.deref-3.ensures.value)

pub stand-requires-clause-reruns : goal.stand-requires-clause-reruns
stand-requires-clause-reruns c =
    told-reruns c.args.history.now c.args.opening.now c.args.row.now c.args.lease c.args.report c.requires
    c.deref-6.result.now c.in_ok-reruns.reruns.items c.told_run-2.result
    (c.deref-6.ensures.value ∙ c.in_ok-push_some-2.ensures.added) (c.in_ok-reruns.ensures.items ∙ c.deref-2.ensures.value)
    c.told_run-2.ensures

pub stand-requires-clause-cancelled : goal.stand-requires-clause-cancelled
stand-requires-clause-cancelled c =
    sym (told-cancelled c.args.history.now c.args.opening.now c.args.row.now c.args.lease c.args.report c.requires)

pub stand-requires-clause-over : goal.stand-requires-clause-over
stand-requires-clause-over c =
    c.is_over_by-over.ensures
    ∙ sym (told-over c.args.history.now c.args.opening.now c.args.row.now c.args.lease c.args.report c.requires)

pub returns : goal.returns
returns c =
    let H = c.args.history.now in
    let o = c.args.opening.now in
    let row = c.args.row.now in
    let runs_are =
    told-runs H o row c.args.lease c.args.report c.requires c.push_some.new.list.items c.in_ok-runs.runs.items
    c.told_run.result c.in_ok-push_some.ensures.added (c.in_ok-runs.ensures.items ∙ c.deref.ensures.value)
    c.told_run.ensures in
    let again_are =
    told-reruns H o row c.args.lease c.args.report c.requires c.push_some-2.new.list.items c.in_ok-reruns.reruns.items
    c.told_run-2.result c.in_ok-push_some-2.ensures.added (c.in_ok-reruns.ensures.items ∙ c.deref-2.ensures.value)
    c.told_run-2.ensures in
    let skips_are =
    told-skipped H o row c.args.lease c.args.report c.requires c.in_ok-skipped.skipped.items
    (c.in_ok-skipped.ensures.items ∙ c.deref-3.ensures.value) in
    told-row H o row c.args.lease c.args.report c.requires _ runs_are again_are skips_are refl c.is_over_by-over.ensures
    c.in_ok-standing.ensures.standing c.in_ok-standing.ensures.planned
    (c.in_ok-unreported.ensures
    ∙ ap (filter (λ (l : LeasedRun). not (c.args.report.run == l.run))) c.deref-7.ensures.value)
    refl
