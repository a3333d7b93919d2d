-- What each exit of an upgrade leaves, by the lemmas of `Upgrade`.
use Rattle.std.proofs.Common.{Result, ◌∙◌, subst}
use Rattle.farm_disk.proofs.Moments.{settled-sync}
use Rattle.farm_journal.specs.Outcome.{SyncEnds}
use Rattle.farm_journal.specs.declared.disk_calls.DiskFault.{DiskFault}
use Rattle.farm_journal.proofs.Run.{on_ok}
use Rattle.farm_journal.proofs.Upgrade.{same-cut, same-sync, same-version, upgraded, length-upgraded}
use Rattle.farm_journal.proofs.upgrading.upgrade.Goals as goal

pub returns-in_err-cut-clause-any_moment : goal.returns-in_err-cut-clause-any_moment
returns-in_err-cut-clause-any_moment g c tells ps rests =
    (same-cut ps c.args.gate _ rests _ c.cut.result (c.cut.ensures.ends tells)).images

pub returns-in_err-cut-clause-reads : goal.returns-in_err-cut-clause-reads
returns-in_err-cut-clause-reads g c tells ps rests =
    (same-cut ps c.args.gate _ rests _ c.cut.result (c.cut.ensures.ends tells)).reads

pub returns-in_err-sync-clause-any_moment : goal.returns-in_err-sync-clause-any_moment
returns-in_err-sync-clause-any_moment g c tells ps rests =
    let one = same-cut ps c.args.gate _ rests _ c.cut.result (c.cut.ensures.ends tells) in
    (same-sync ps c.args.gate _ rests _ _ c.sync.result one (c.sync.ensures.ends (c.cut.ensures.same ∙ tells))).images

pub returns-in_err-sync-clause-reads : goal.returns-in_err-sync-clause-reads
returns-in_err-sync-clause-reads g c tells ps rests =
    let one = same-cut ps c.args.gate _ rests _ c.cut.result (c.cut.ensures.ends tells) in
    (same-sync ps c.args.gate _ rests _ _ c.sync.result one (c.sync.ensures.ends (c.cut.ensures.same ∙ tells))).reads

pub returns-in_err-write-clause-any_moment : goal.returns-in_err-write-clause-any_moment
returns-in_err-write-clause-any_moment g c tells ps rests =
    let tells_1 = c.cut.ensures.same ∙ tells in
    let one = same-cut ps c.args.gate _ rests _ c.cut.result (c.cut.ensures.ends tells) in
    let two = same-sync ps c.args.gate _ rests _ _ c.sync.result one (c.sync.ensures.ends tells_1) in
    let on_disk = settled-sync _ _ (c.in_ok-sync.ensures.ends tells_1) in
    (same-version ps c.args.gate _ rests _ _ c.write.result two on_disk
    (c.write.ensures.ends (c.sync.ensures.same ∙ tells_1))).images

pub returns-in_err-write-clause-reads : goal.returns-in_err-write-clause-reads
returns-in_err-write-clause-reads g c tells ps rests =
    let tells_1 = c.cut.ensures.same ∙ tells in
    let one = same-cut ps c.args.gate _ rests _ c.cut.result (c.cut.ensures.ends tells) in
    let two = same-sync ps c.args.gate _ rests _ _ c.sync.result one (c.sync.ensures.ends tells_1) in
    let on_disk = settled-sync _ _ (c.in_ok-sync.ensures.ends tells_1) in
    (same-version ps c.args.gate _ rests _ _ c.write.result two on_disk
    (c.write.ensures.ends (c.sync.ensures.same ∙ tells_1))).reads

pub returns-clause-any_moment : goal.returns-clause-any_moment
returns-clause-any_moment g c tells ps rests =
    let tells_1 = c.cut.ensures.same ∙ tells in
    let tells_2 = c.sync.ensures.same ∙ tells_1 in
    let one = same-cut ps c.args.gate _ rests _ c.cut.result (c.cut.ensures.ends tells) in
    let two = same-sync ps c.args.gate _ rests _ _ c.sync.result one (c.sync.ensures.ends tells_1) in
    let on_disk = settled-sync _ _ (c.in_ok-sync.ensures.ends tells_1) in
    let three = same-version ps c.args.gate _ rests _ _ c.write.result two on_disk (c.write.ensures.ends tells_2) in
    (same-sync ps c.args.gate _ rests _ _ c.sync-2.result three
    (c.sync-2.ensures.ends (c.write.ensures.same ∙ tells_2))).images

pub returns-clause-reads : goal.returns-clause-reads
returns-clause-reads g c tells ps rests =
    let tells_1 = c.cut.ensures.same ∙ tells in
    let tells_2 = c.sync.ensures.same ∙ tells_1 in
    let one = same-cut ps c.args.gate _ rests _ c.cut.result (c.cut.ensures.ends tells) in
    let two = same-sync ps c.args.gate _ rests _ _ c.sync.result one (c.sync.ensures.ends tells_1) in
    let on_disk = settled-sync _ _ (c.in_ok-sync.ensures.ends tells_1) in
    let three = same-version ps c.args.gate _ rests _ _ c.write.result two on_disk (c.write.ensures.ends tells_2) in
    (same-sync ps c.args.gate _ rests _ _ c.sync-2.result three
    (c.sync-2.ensures.ends (c.write.ensures.same ∙ tells_2))).reads

pub returns-clause-done : goal.returns-clause-done
returns-clause-done g c = on_ok c.sync-2.result _ (λ u is tells ps rests.
    let tells_1 = c.cut.ensures.same ∙ tells in
    let tells_2 = c.sync.ensures.same ∙ tells_1 in
    let one = same-cut ps c.args.gate _ rests _ c.cut.result (c.cut.ensures.ends tells) in
    let two = same-sync ps c.args.gate _ rests _ _ c.sync.result one (c.sync.ensures.ends tells_1) in
    let synced = subst
    (λ (r : Result (Unit {0}) DiskFault). SyncEnds r (g.D.Disk.told c.write.new.disk) (g.D.Disk.told c.sync-2.new.disk))
    is (c.sync-2.ensures.ends (c.write.ensures.same ∙ tells_2)) in
    upgraded ps c.args.gate (g.D.Disk.told c.args.disk.now) rests _ _ _ two (c.in_ok-write.ensures.ends tells_2) synced)

pub returns-clause-cuts : goal.returns-clause-cuts
returns-clause-cuts g c = on_ok c.sync-2.result _ (λ u is tells.
    let tells_1 = c.cut.ensures.same ∙ tells in
    let tells_2 = c.sync.ensures.same ∙ tells_1 in
    let synced = subst
    (λ (r : Result (Unit {0}) DiskFault). SyncEnds r (g.D.Disk.told c.write.new.disk) (g.D.Disk.told c.sync-2.new.disk))
    is (c.sync-2.ensures.ends (c.write.ensures.same ∙ tells_2)) in
    length-upgraded c.args.gate (g.D.Disk.told c.args.disk.now) (g.D.Disk.told c.cut.new.disk)
    (g.D.Disk.told c.sync.new.disk) (g.D.Disk.told c.write.new.disk) (g.D.Disk.told c.sync-2.new.disk)
    (c.requires.gate tells) c.requires.first (c.in_ok-cut.ensures.ends tells) (c.in_ok-sync.ensures.ends tells_1)
    (c.write.ensures.no_shorter tells_2) (c.write.ensures.no_longer tells_2) synced)
