use Rattle.std.proofs.Common.{inl, refl}
use Rattle.outside_seen.specs.Outside.{disk_seen, output_seen}
use Rattle.finder_commands.specs.Found.{founded_text}
use Rattle.finder_commands.proofs.Causes.{text-cause}
use Rattle.finder_commands.proofs.Foundings.{founded-ends}
use Rattle.finder_commands.proofs.found_command.found_command.Goals as goal

pub returns-in-Err-clause-ends : goal.returns-in-Err-clause-ends
returns-in-Err-clause-ends g c =
    let found = c.in-Err.ensures in (
      c.now-at.result,
      (c.now-at.ensures.shown, c.now-at.ensures.told),
      inl (c.in-Err.fault, c.status_of_creating.ensures, record { untouched = refl; cause = found.answers }),
      record { born = found.born; since_sync = found.since_sync; any_moment = found.any_moment },
    )

pub returns-in-Ok-clause-ends : goal.returns-in-Ok-clause-ends
returns-in-Ok-clause-ends g c =
    let found = c.in-Ok.ensures in
    let both = founded-ends g.D.Disk c.args.settings c.now-at.result c.put_text-status.result
    (output_seen g.K.Sink c.args.output.now) (output_seen g.K.Sink c.put_text-status.new.output) c.args.disk
    c.in-Ok.store c.into_disk.result c.into_disk.ensures.disk found.answers found.stored
    (record { born = found.born; since_sync = found.since_sync; any_moment = found.any_moment })
    c.put_text-status.ensures in (
      c.now-at.result,
      (c.now-at.ensures.shown, c.now-at.ensures.told),
      both.0,
      both.1,
    )

pub returns-in-Ok-clause-cause : goal.returns-in-Ok-clause-cause
returns-in-Ok-clause-cause g c =
    text-cause founded_text c.put_text-status.result (output_seen g.K.Sink c.args.output.now)
    (output_seen g.K.Sink c.put_text-status.new.output) (disk_seen g.D.Disk c.args.disk)
    (disk_seen g.D.Disk c.into_disk.result) c.put_text-status.ensures
