use Rattle.std.proofs.Common.{List, inr, subst}
use Rattle.farm_entry.specs.declared.entry.Entry.{Entry}
use Rattle.rates_report.specs.RateLines.{rates_text}
use Rattle.outside_seen.specs.Outside.{disk_seen, output_seen}
use Rattle.finder_commands.specs.TextPut.{TextPut}
use Rattle.finder_commands.proofs.Causes.{text-cause}
use Rattle.finder_commands.proofs.JournalRuns.{shown-opened}
use Rattle.finder_commands.proofs.rates_command.rates_command.Goals as goal

pub returns-in-Ok-clause-ends : goal.returns-in-Ok-clause-ends
returns-in-Ok-clause-ends g c =
    let opened = c.in-Ok.ensures in
    let shown = c.put_rates-status in
    let text = subst (λ (h : List Entry). TextPut (rates_text h) shown.result (output_seen g.K.Sink c.args.output.now)
    (output_seen g.K.Sink shown.new.output)) c.history.ensures.value shown.ensures in
    inr (shown-opened g.D.Disk rates_text shown.result (output_seen g.K.Sink c.args.output.now)
    (output_seen g.K.Sink shown.new.output) c.in-Ok.store c.args.disk c.into_disk.result c.into_disk.ensures.disk
    opened.answers opened.legal opened.only text)

pub returns-in-Ok-clause-cause : goal.returns-in-Ok-clause-cause
returns-in-Ok-clause-cause g c =
    let shown = c.put_rates-status in
    text-cause (rates_text c.history.result.now) shown.result (output_seen g.K.Sink c.args.output.now)
    (output_seen g.K.Sink shown.new.output) (disk_seen g.D.Disk c.args.disk)
    (disk_seen g.D.Disk c.into_disk.result) shown.ensures
