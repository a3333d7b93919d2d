use Rattle.std.proofs.Common.{inl, inr, refl, subst, sym}
use Rattle.outside_seen.specs.Outside.{disk_seen}
use Rattle.finder_commands.proofs.Causes.{opening-cause}
use Rattle.finder_commands.proofs.Following.{born-status, cause-counts, follow-completes, journal-followed}
use Rattle.finder_commands.specs.Disks.{HasStoreCause}
use Rattle.finder_commands.specs.declared.status.Status.{Status}
use Rattle.finder_commands.proofs.follow_command.follow_command.Goals as goal

pub returns-in-Ok-clause-ends : goal.returns-in-Ok-clause-ends
returns-in-Ok-clause-ends g c =
    let led = c.follow_leader-status in
    inr (journal-followed g.D.Disk c.args.rounds led.result _ _ _ _ c.args.disk c.into_disk.result c.in-Ok.follower
    led.new.follower c.in-Ok.ensures.opens led.ensures.followed led.ensures.grows led.ensures.sound led.ensures.any_moment
    led.ensures.same c.into_disk.ensures.disk c.into_disk.ensures.kept)

pub returns-in-Ok-clause-cause : goal.returns-in-Ok-clause-cause
returns-in-Ok-clause-cause g c =
    let led = c.follow_leader-status in
    cause-counts led.result (disk_seen g.D.Disk c.args.disk) _ _ (disk_seen g.D.Disk c.into_disk.result)
    c.faults-before.ensures (sym c.into_disk.ensures.count) led.ensures.cause

pub returns-in-Ok-clause-completes : goal.returns-in-Ok-clause-completes
returns-in-Ok-clause-completes g c =
    follow-completes c.args.rounds c.follow_leader-status.result _ _ (returns-in-Ok-clause-ends g c)
    (returns-in-Ok-clause-cause g c)

pub returns-in-Err-clause-ends : goal.returns-in-Err-clause-ends
returns-in-Err-clause-ends g c =
    let missed = c.in-Err.ensures.opens in
    inl (
      born-status c.in-Err.fault c.status_of_opening.result missed.born c.status_of_opening.ensures,
      (c.in-Err.fault, c.status_of_opening.ensures, record { untouched = refl; cause = missed.cause; only = missed.only }),
    )

pub returns-in-Err-clause-cause : goal.returns-in-Err-clause-cause
returns-in-Err-clause-cause g c =
    subst (λ (s : Status). HasStoreCause s (disk_seen g.D.Disk c.args.disk) (disk_seen g.D.Disk c.in-Err.disk))
    (sym c.status_of_opening.ensures)
    (opening-cause c.in-Err.fault (disk_seen g.D.Disk c.args.disk) (disk_seen g.D.Disk c.in-Err.disk)
    c.in-Err.ensures.opens.counts)

pub returns-in-Err-clause-completes : goal.returns-in-Err-clause-completes
returns-in-Err-clause-completes g c =
    follow-completes c.args.rounds c.status_of_opening.result _ _ (returns-in-Err-clause-ends g c)
    (returns-in-Err-clause-cause g c)
