use Rattle.std.proofs.Common.{inr}
use Rattle.outside_seen.specs.Outside.{disk_seen}
use Rattle.finder_commands.proofs.Causes.{cause-same}
use Rattle.finder_commands.proofs.JournalRuns.{ran-opened}
use Rattle.finder_commands.proofs.run_journal.run_journal.Goals as goal

pub returns-in-Ok-clause-ends : goal.returns-in-Ok-clause-ends
returns-in-Ok-clause-ends g c =
    let opened = c.in-Ok.ensures in
    let ran = c.run_store.ensures.ran in
    inr (
      ran.0,
      ran.1,
      ran-opened g.D.Disk ran.0 _ _ c.in-Ok.store c.args.disk c.run_store.result.1 (record {
        none = opened.decided;
        same = opened.same;
        held = opened.answers;
        legal = opened.legal;
        stored = opened.stored;
        only = opened.only;
        never_falls = opened.never_falls;
      }) ran.2,
    )

pub returns-in-Ok-clause-cause : goal.returns-in-Ok-clause-cause
returns-in-Ok-clause-cause g c =
    cause-same c.run_store.result.0 (disk_seen g.D.Disk c.args.disk) _ (disk_seen g.D.Disk c.run_store.result.1)
    c.faults-before.ensures c.run_store.ensures.cause
