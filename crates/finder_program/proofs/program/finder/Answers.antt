use Rattle.std.proofs.Common.{inl, inr, refl}
use Rattle.farm_script.specs.Shown.{shown_text}
use Rattle.link_io.specs.Streams.{streams}
use Rattle.rates_report.specs.RateLines.{rates_text}
use Rattle.connection_laws.specs.Moments.{MayGive}
use Rattle.outside_seen.specs.Outside.{disk_seen, output_seen}
use Rattle.finder_commands.proofs.Completing.{close-completes, evidence-completes, found-completes, inherit-completes, run_journal-completes, shown-completes}
use Rattle.finder_commands.proofs.Inheritings.{inherit-says}
use Rattle.finder_program.proofs.Saying.{asked-named, asked-none, unread-says}
use Rattle.finder_program.proofs.program.finder.Goals as goal

pub returns-in-Ok-Some-Judge-clause-says : goal.returns-in-Ok-Some-Judge-clause-says
returns-in-Ok-Some-Judge-clause-says g c =
    let read = c.in-Ok-Some-Judge in
    let done = c.judge_command.ensures in
    rw (asked-named read.ensures.asked read.field-0-is read.field-0-0-is)
    (record { ends = done.ends; completes = done.completes })

pub returns-in-Ok-Some-Run-clause-says : goal.returns-in-Ok-Some-Run-clause-says
returns-in-Ok-Some-Run-clause-says g c =
    let read = c.in-Ok-Some-Run in
    let done = c.run_command.ensures in
    rw (asked-named read.ensures.asked read.field-0-is read.field-0-0-is)
    (record { ends = inr done.ends; completes = done.completes })

pub returns-in-Ok-Some-Audit-clause-says : goal.returns-in-Ok-Some-Audit-clause-says
returns-in-Ok-Some-Audit-clause-says g c =
    let read = c.in-Ok-Some-Audit in
    let done = c.audit_command.ensures in
    rw (asked-named read.ensures.asked read.field-0-is read.field-0-0-is)
    (record { ends = done.ends; completes = done.completes })

pub returns-in-Ok-Some-Found-clause-says : goal.returns-in-Ok-Some-Found-clause-says
returns-in-Ok-Some-Found-clause-says g c =
    let read = c.in-Ok-Some-Found in
    let done = c.found_command-status in
    rw (asked-named read.ensures.asked read.field-0-is read.field-0-0-is)
    (record {
      ends = inr (read.settings, record { lease = refl; orders = refl; zone = refl }, done.ensures.ends);
      completes = found-completes read.settings done.ensures.ends.0 done.result.0
          (output_seen g.K.Sink c.args.output.now) (output_seen g.K.Sink done.new.output)
          (disk_seen g.D.Disk c.args.disk) (disk_seen g.D.Disk done.result.1) done.ensures.ends.2 done.ensures.cause;
    })

pub returns-in-Ok-Some-Show-clause-says : goal.returns-in-Ok-Some-Show-clause-says
returns-in-Ok-Some-Show-clause-says g c =
    let read = c.in-Ok-Some-Show in
    let done = c.show_command-status in
    rw (asked-named read.ensures.asked read.field-0-is read.field-0-0-is)
    (record {
      ends = done.ensures.ends;
      completes = shown-completes shown_text done.result.0 (output_seen g.K.Sink c.args.output.now)
          (output_seen g.K.Sink done.new.output) (disk_seen g.D.Disk c.args.disk) (disk_seen g.D.Disk done.result.1)
          done.ensures.ends done.ensures.cause;
    })

pub returns-in-Ok-Some-Rates-clause-says : goal.returns-in-Ok-Some-Rates-clause-says
returns-in-Ok-Some-Rates-clause-says g c =
    let read = c.in-Ok-Some-Rates in
    let done = c.rates_command-status in
    rw (asked-named read.ensures.asked read.field-0-is read.field-0-0-is)
    (record {
      ends = done.ensures.ends;
      completes = shown-completes rates_text done.result.0 (output_seen g.K.Sink c.args.output.now)
          (output_seen g.K.Sink done.new.output) (disk_seen g.D.Disk c.args.disk) (disk_seen g.D.Disk done.result.1)
          done.ensures.ends done.ensures.cause;
    })

pub returns-in-Ok-Some-Evidence-clause-says : goal.returns-in-Ok-Some-Evidence-clause-says
returns-in-Ok-Some-Evidence-clause-says g c =
    let read = c.in-Ok-Some-Evidence in
    let done = c.evidence_command-status in
    rw (asked-named read.ensures.asked read.field-0-is read.field-0-0-is)
    (record {
      ends = done.ensures.ends;
      completes = evidence-completes read.search done.result.0 (output_seen g.K.Sink c.args.output.now)
          (output_seen g.K.Sink done.new.output) (disk_seen g.D.Disk c.args.disk) (disk_seen g.D.Disk done.result.1)
          done.ensures.ends done.ensures.cause;
    })

pub returns-in-Ok-Some-Close-clause-says : goal.returns-in-Ok-Some-Close-clause-says
returns-in-Ok-Some-Close-clause-says g c =
    let read = c.in-Ok-Some-Close in
    let done = c.close_command-status in
    rw (asked-named read.ensures.asked read.field-0-is read.field-0-0-is)
    (record {
      ends = done.ensures.ends;
      completes = close-completes (MayGive g.C.Clock c.args.clock.now) done.result.0
          (output_seen g.K.Sink c.args.output.now) (output_seen g.K.Sink done.new.output)
          (disk_seen g.D.Disk c.args.disk) (disk_seen g.D.Disk done.result.1) done.ensures.ends done.ensures.cause;
    })

pub returns-in-Ok-Some-Inherit-clause-says : goal.returns-in-Ok-Some-Inherit-clause-says
returns-in-Ok-Some-Inherit-clause-says g c =
    let read = c.in-Ok-Some-Inherit in
    let done = c.inherit_command-status in
    let before = streams g.S.Source g.K.Sink c.args.input.now c.args.output.now in
    let after = streams g.S.Source g.K.Sink done.new.input done.new.output in
    rw (asked-named read.ensures.asked read.field-0-is read.field-0-0-is)
    (record {
      ends = inherit-says read.settings (MayGive g.C.Clock c.args.clock.now) done.result.0 before after
          (disk_seen g.D.Disk c.args.disk) (disk_seen g.D.Disk done.result.1) done.ensures.ends;
      completes = inherit-completes (MayGive g.C.Clock c.args.clock.now) read.settings done.result.0 before after
          (disk_seen g.D.Disk c.args.disk) (disk_seen g.D.Disk done.result.1) done.ensures.ends done.ensures.cause;
    })

pub returns-in-Ok-Some-RunJournal-clause-says : goal.returns-in-Ok-Some-RunJournal-clause-says
returns-in-Ok-Some-RunJournal-clause-says g c =
    let read = c.in-Ok-Some-RunJournal in
    let done = c.run_journal-status in
    rw (asked-named read.ensures.asked read.field-0-is read.field-0-0-is)
    (record {
      ends = done.ensures.ends;
      completes = run_journal-completes done.result.0 (streams g.S.Source g.K.Sink c.args.input.now c.args.output.now)
          (streams g.S.Source g.K.Sink done.new.input done.new.output) (disk_seen g.D.Disk c.args.disk)
          (disk_seen g.D.Disk done.result.1) done.ensures.ends done.ensures.cause;
    })

pub returns-in-Ok-Some-Serve-clause-says : goal.returns-in-Ok-Some-Serve-clause-says
returns-in-Ok-Some-Serve-clause-says g c =
    let read = c.in-Ok-Some-Serve in
    let done = c.serve_command.ensures in
    rw (asked-named read.ensures.asked read.field-0-is read.field-0-0-is)
    (record { ends = done.ends; completes = done.completes })

pub returns-in-Ok-Some-Work-clause-says : goal.returns-in-Ok-Some-Work-clause-says
returns-in-Ok-Some-Work-clause-says g c =
    let read = c.in-Ok-Some-Work in
    let done = c.work_command-status.ensures in
    rw (asked-named read.ensures.asked read.field-0-is read.field-0-0-is)
    (record { ends = done.ends; completes = done.completes })

pub returns-in-Ok-Some-Drill-clause-says : goal.returns-in-Ok-Some-Drill-clause-says
returns-in-Ok-Some-Drill-clause-says g c =
    let read = c.in-Ok-Some-Drill in
    let done = c.drill_command.ensures in
    rw (asked-named read.ensures.asked read.field-0-is read.field-0-0-is)
    (record { ends = done.ends; completes = done.completes })

pub returns-in-Ok-Some-Follow-clause-says : goal.returns-in-Ok-Some-Follow-clause-says
returns-in-Ok-Some-Follow-clause-says g c =
    let read = c.in-Ok-Some-Follow in
    let done = c.follow_command-status.ensures in
    rw (asked-named read.ensures.asked read.field-0-is read.field-0-0-is)
    (record { ends = done.ends; completes = done.completes })

pub returns-in-Ok-None-clause-says : goal.returns-in-Ok-None-clause-says
returns-in-Ok-None-clause-says g c =
    let read = c.in-Ok-None in
    rw (asked-none read.ensures.asked read.field-0-is) (inl refl)

-- where memory ran out to read the words
pub returns-in-Err-clause-says : goal.returns-in-Err-clause-says
returns-in-Err-clause-says g c = unread-says _ _
