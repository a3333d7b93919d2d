use Rattle.std.proofs.Common.{List, ap, inr, subst, ◌∙◌, ℕ}
use Rattle.connection_laws.specs.Moments.{MayGive}
use Rattle.farm_entry.specs.declared.entry.Entry.{Entry}
use Rattle.farm_handover.specs.Handover.{handover_of}
use Rattle.outside_seen.proofs.Openings.{WasOpened}
use Rattle.outside_seen.specs.Outside.{output_seen}
use Rattle.finder_commands.specs.CloseCommand.{status_of_unclosed}
use Rattle.finder_commands.specs.TextPut.{TextPut}
use Rattle.finder_commands.proofs.Closings.{came-closed, came-unclosed, closing-tried}
use Rattle.finder_commands.proofs.close_command.close_command.Goals as goal

pub returns-in-Ok-close-clause-ends : goal.returns-in-Ok-close-clause-ends
returns-in-Ok-close-clause-ends g c =
    let opening = c.in-Ok.ensures in
    let opened : WasOpened g.D.Disk c.in-Ok.store c.args.disk = record {
      none = opening.decided;
      same = opening.same;
      held = opening.answers;
      legal = opening.legal;
      stored = opening.stored;
      only = opening.only;
      never_falls = opening.never_falls;
    } in
    let shown = c.put_handover-status in
    let before = output_seen g.K.Sink c.args.output.now in
    let after = output_seen g.K.Sink shown.new.output in
    let put = subst (λ (h : List Entry). TextPut (handover_of h) shown.result before after) c.history.ensures.value
    shown.ensures in
    inr (closing-tried g.D.Disk (MayGive g.C.Clock c.args.clock.now) c.now-at.result shown.result before after
    c.in-Ok.store c.close.new.self c.args.disk c.into_disk.result c.close.result c.into_disk.ensures.disk
    (c.now-at.ensures.shown, c.now-at.ensures.told) opened c.close.ensures.closes c.close.ensures.keeps
    (came-closed g.D.Disk c.now-at.result shown.result before after c.in-Ok.store c.close.new.self c.args.disk
    c.close.result c.in-Ok-close.field-0 c.in-Ok-close.is opened c.close.ensures.closes c.close.ensures.keeps put))

pub returns-in-Err-close-clause-ends : goal.returns-in-Err-close-clause-ends
returns-in-Err-close-clause-ends g c =
    let opening = c.in-Ok.ensures in
    let opened : WasOpened g.D.Disk c.in-Ok.store c.args.disk = record {
      none = opening.decided;
      same = opening.same;
      held = opening.answers;
      legal = opening.legal;
      stored = opening.stored;
      only = opening.only;
      never_falls = opening.never_falls;
    } in
    let seen = output_seen g.K.Sink c.args.output.now in
    inr (closing-tried g.D.Disk (MayGive g.C.Clock c.args.clock.now) c.now-at.result c.status_of_unclosed.result seen seen
    c.in-Ok.store c.close.new.self c.args.disk c.into_disk-in-Err-close.result c.close.result
    c.into_disk-in-Err-close.ensures.disk (c.now-at.ensures.shown, c.now-at.ensures.told) opened c.close.ensures.closes
    c.close.ensures.keeps
    (came-unclosed g.D.Disk c.now-at.result c.status_of_unclosed.result seen c.in-Ok.store c.close.new.self c.args.disk
    c.close.result c.in-Err-close.fault c.in-Err-close.is
    (c.status_of_unclosed.ensures
    ∙ ap (λ (n : ℕ). status_of_unclosed c.in-Err-close.fault n) c.faults-before.ensures)
    opened c.close.ensures.closes c.close.ensures.keeps c.close.ensures.cause))
