use Rattle.std.proofs.Common.{◌∙◌, ap, inr}
use Rattle.farm_script.specs.Shown.{shown_text}
use Rattle.farm_store.specs.State.{StoreState}
use Rattle.outside_seen.specs.Outside.{disk_seen, output_seen}
use Rattle.finder_commands.proofs.Causes.{text-cause}
use Rattle.finder_commands.proofs.JournalRuns.{shown-opened}
use Rattle.finder_commands.proofs.show_command.show_command.Goals as goal

pub returns-in-Ok-clause-ends : goal.returns-in-Ok-clause-ends
returns-in-Ok-clause-ends g c =
    let opened = c.in-Ok.ensures in
    let shown = c.show_store-status in
    let left = c.into_disk.ensures.disk ∙ ap (λ (s : StoreState g.row.D.Denot). s.disk) shown.ensures.kept in
    inr (shown-opened g.D.Disk shown_text shown.result (output_seen g.K.Sink c.args.output.now)
    (output_seen g.K.Sink shown.new.output) c.in-Ok.store c.args.disk c.into_disk.result left opened.answers
    opened.legal opened.only shown.ensures.text)

pub returns-in-Ok-clause-cause : goal.returns-in-Ok-clause-cause
returns-in-Ok-clause-cause g c =
    let shown = c.show_store-status in
    text-cause (shown_text c.in-Ok.store.history) shown.result (output_seen g.K.Sink c.args.output.now)
    (output_seen g.K.Sink shown.new.output) (disk_seen g.D.Disk c.args.disk)
    (disk_seen g.D.Disk c.into_disk.result) shown.ensures.text
