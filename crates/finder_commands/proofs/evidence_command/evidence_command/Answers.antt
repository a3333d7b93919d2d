use Rattle.std.proofs.Common.{List, inr, subst}
use Rattle.farm_entry.specs.declared.entry.Entry.{Entry}
use Rattle.search_evidence.specs.Evidence.{evidence_text}
use Rattle.outside_seen.specs.Outside.{disk_seen, output_seen}
use Rattle.finder_commands.specs.EvidenceCommand.{EvidencePut}
use Rattle.finder_commands.proofs.Causes.{evidence-cause}
use Rattle.finder_commands.proofs.JournalRuns.{evidence-opened}
use Rattle.finder_commands.proofs.evidence_command.evidence_command.Goals as goal

pub returns-in-Ok-clause-ends : goal.returns-in-Ok-clause-ends
returns-in-Ok-clause-ends g c =
    let opened = c.in-Ok.ensures in
    let shown = c.put_evidence-status in
    let put = subst (λ (h : List Entry). EvidencePut c.args.search (evidence_text h c.args.search) shown.result
    (output_seen g.K.Sink c.args.output.now) (output_seen g.K.Sink shown.new.output)) c.history.ensures.value
    shown.ensures in
    inr (evidence-opened g.D.Disk c.args.search shown.result (output_seen g.K.Sink c.args.output.now)
    (output_seen g.K.Sink shown.new.output) c.in-Ok.store c.args.disk c.into_disk.result c.into_disk.ensures.disk
    opened.answers opened.legal opened.only put)

pub returns-in-Ok-clause-cause : goal.returns-in-Ok-clause-cause
returns-in-Ok-clause-cause g c =
    let shown = c.put_evidence-status in
    evidence-cause c.args.search (evidence_text c.history.result.now c.args.search) shown.result
    (output_seen g.K.Sink c.args.output.now) (output_seen g.K.Sink shown.new.output)
    (disk_seen g.D.Disk c.args.disk) (disk_seen g.D.Disk c.into_disk.result) shown.ensures
