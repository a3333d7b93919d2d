-- What each exit leaves, by the lemmas of `Run`.
use Rattle.std.proofs.Common.{Result, ◌∙◌, arith, subst}
use Rattle.farm_disk.proofs.Moments.{settled-sync}
use Rattle.farm_journal.specs.Outcome.{SyncEnds}
use Rattle.farm_journal.specs.declared.disk_calls.DiskFault.{DiskFault}
use Rattle.farm_journal.proofs.Bytes.{length-closed}
use Rattle.farm_journal.proofs.Run.{length-synced, on_ok, started, waits, went-record, went-sync, went-gate, staged-sync, acknowledged}
use Rattle.farm_journal.proofs.appending.append_record.Goals as goal

pub returns-in_err-put_closed_frame-clause-any_moment : goal.returns-in_err-put_closed_frame-clause-any_moment
returns-in_err-put_closed_frame-clause-any_moment g c tells ps rests =
    (started 2 ps c.args.gate c.args.payload.now _ rests).images

pub returns-in_err-write-clause-any_moment : goal.returns-in_err-write-clause-any_moment
returns-in_err-write-clause-any_moment g c tells ps rests =
    let bytes = c.deref.ensures.value ∙ c.in_ok-put_closed_frame.ensures in
    (went-record ps c.args.gate c.args.payload.now _ rests c.requires.payload _ _ c.write.result bytes
    (c.write.ensures.ends tells)).images

pub returns-in_err-write-clause-failed : goal.returns-in_err-write-clause-failed
returns-in_err-write-clause-failed g c failed tells ps rests =
    let bytes = c.deref.ensures.value ∙ c.in_ok-put_closed_frame.ensures in
    waits 2 ps c.args.gate c.args.payload.now _ _
    (went-record ps c.args.gate c.args.payload.now _ rests c.requires.payload _ _ c.write.result bytes
    (c.write.ensures.ends tells))

pub returns-in_err-sync-clause-any_moment : goal.returns-in_err-sync-clause-any_moment
returns-in_err-sync-clause-any_moment g c tells ps rests =
    let bytes = c.deref.ensures.value ∙ c.in_ok-put_closed_frame.ensures in
    let went = went-record ps c.args.gate c.args.payload.now _ rests c.requires.payload _ _ c.write.result bytes
    (c.write.ensures.ends tells) in
    (went-sync 2 ps c.args.gate c.args.payload.now _ _ _ c.sync.result went
    (c.sync.ensures.ends (c.write.ensures.same ∙ tells))).images

pub returns-in_err-sync-clause-failed : goal.returns-in_err-sync-clause-failed
returns-in_err-sync-clause-failed g c failed tells ps rests =
    let bytes = c.deref.ensures.value ∙ c.in_ok-put_closed_frame.ensures in
    let went = went-record ps c.args.gate c.args.payload.now _ rests c.requires.payload _ _ c.write.result bytes
    (c.write.ensures.ends tells) in
    waits 2 ps c.args.gate c.args.payload.now _ _
    (went-sync 2 ps c.args.gate c.args.payload.now _ _ _ c.sync.result went
    (c.sync.ensures.ends (c.write.ensures.same ∙ tells)))

pub returns-in_err-write-2-clause-any_moment : goal.returns-in_err-write-2-clause-any_moment
returns-in_err-write-2-clause-any_moment g c tells ps rests =
    let bytes = c.deref.ensures.value ∙ c.in_ok-put_closed_frame.ensures in
    let tells_1 = c.write.ensures.same ∙ tells in
    let tells_2 = c.sync.ensures.same ∙ tells_1 in
    let went = went-record ps c.args.gate c.args.payload.now _ rests c.requires.payload _ _ c.write.result bytes
    (c.write.ensures.ends tells) in
    let synced = went-sync 2 ps c.args.gate c.args.payload.now _ _ _ c.sync.result went (c.sync.ensures.ends tells_1) in
    let whole = staged-sync ps c.args.gate c.args.payload.now _ rests c.requires.payload _ _ _ bytes
    (c.in_ok-write.ensures.ends tells) (c.in_ok-sync.ensures.ends tells_1) in
    let on_disk = settled-sync _ _ (c.in_ok-sync.ensures.ends tells_1) in
    (went-gate ps c.args.gate c.args.payload.now _ rests c.requires.payload _ _ c.write-2.result synced whole on_disk
    (c.write-2.ensures.ends tells_2)).images

pub returns-in_err-write-2-clause-failed : goal.returns-in_err-write-2-clause-failed
returns-in_err-write-2-clause-failed g c failed tells ps rests =
    let bytes = c.deref.ensures.value ∙ c.in_ok-put_closed_frame.ensures in
    let tells_1 = c.write.ensures.same ∙ tells in
    let tells_2 = c.sync.ensures.same ∙ tells_1 in
    let went = went-record ps c.args.gate c.args.payload.now _ rests c.requires.payload _ _ c.write.result bytes
    (c.write.ensures.ends tells) in
    let synced = went-sync 2 ps c.args.gate c.args.payload.now _ _ _ c.sync.result went (c.sync.ensures.ends tells_1) in
    let whole = staged-sync ps c.args.gate c.args.payload.now _ rests c.requires.payload _ _ _ bytes
    (c.in_ok-write.ensures.ends tells) (c.in_ok-sync.ensures.ends tells_1) in
    let on_disk = settled-sync _ _ (c.in_ok-sync.ensures.ends tells_1) in
    waits 2 ps c.args.gate c.args.payload.now _ _
    (went-gate ps c.args.gate c.args.payload.now _ rests c.requires.payload _ _ c.write-2.result synced whole on_disk
    (c.write-2.ensures.ends tells_2))

pub returns-clause-any_moment : goal.returns-clause-any_moment
returns-clause-any_moment g c tells ps rests =
    let bytes = c.deref.ensures.value ∙ c.in_ok-put_closed_frame.ensures in
    let tells_1 = c.write.ensures.same ∙ tells in
    let tells_2 = c.sync.ensures.same ∙ tells_1 in
    let went = went-record ps c.args.gate c.args.payload.now _ rests c.requires.payload _ _ c.write.result bytes
    (c.write.ensures.ends tells) in
    let synced = went-sync 2 ps c.args.gate c.args.payload.now _ _ _ c.sync.result went (c.sync.ensures.ends tells_1) in
    let whole = staged-sync ps c.args.gate c.args.payload.now _ rests c.requires.payload _ _ _ bytes
    (c.in_ok-write.ensures.ends tells) (c.in_ok-sync.ensures.ends tells_1) in
    let on_disk = settled-sync _ _ (c.in_ok-sync.ensures.ends tells_1) in
    let gate = went-gate ps c.args.gate c.args.payload.now _ rests c.requires.payload _ _ c.write-2.result synced whole
    on_disk (c.write-2.ensures.ends tells_2) in
    (went-sync 2 ps c.args.gate c.args.payload.now _ _ _ c.sync-2.result gate
    (c.sync-2.ensures.ends (c.write-2.ensures.same ∙ tells_2))).images

pub returns-clause-done : goal.returns-clause-done
returns-clause-done g c = on_ok c.sync-2.result _ (λ u is tells ps rests.
    let bytes = c.deref.ensures.value ∙ c.in_ok-put_closed_frame.ensures in
    let tells_1 = c.write.ensures.same ∙ tells in
    let tells_2 = c.sync.ensures.same ∙ tells_1 in
    let whole = staged-sync ps c.args.gate c.args.payload.now _ rests c.requires.payload _ _ _ bytes
    (c.in_ok-write.ensures.ends tells) (c.in_ok-sync.ensures.ends tells_1) in
    let synced = subst
    (λ (r : Result (Unit {0}) DiskFault). SyncEnds r (g.D.Disk.told c.write-2.new.disk)
    (g.D.Disk.told c.sync-2.new.disk)) is (c.sync-2.ensures.ends (c.write-2.ensures.same ∙ tells_2)) in
    acknowledged ps c.args.gate c.args.payload.now (g.D.Disk.told c.args.disk.now) rests c.requires.payload _ _ _ whole
    (c.in_ok-write-2.ensures.ends tells_2) synced)

pub returns-clause-failed : goal.returns-clause-failed
returns-clause-failed g c failed tells ps rests =
    let bytes = c.deref.ensures.value ∙ c.in_ok-put_closed_frame.ensures in
    let tells_1 = c.write.ensures.same ∙ tells in
    let tells_2 = c.sync.ensures.same ∙ tells_1 in
    let went = went-record ps c.args.gate c.args.payload.now _ rests c.requires.payload _ _ c.write.result bytes
    (c.write.ensures.ends tells) in
    let synced = went-sync 2 ps c.args.gate c.args.payload.now _ _ _ c.sync.result went (c.sync.ensures.ends tells_1) in
    let whole = staged-sync ps c.args.gate c.args.payload.now _ rests c.requires.payload _ _ _ bytes
    (c.in_ok-write.ensures.ends tells) (c.in_ok-sync.ensures.ends tells_1) in
    let on_disk = settled-sync _ _ (c.in_ok-sync.ensures.ends tells_1) in
    let gate = went-gate ps c.args.gate c.args.payload.now _ rests c.requires.payload _ _ c.write-2.result synced whole
    on_disk (c.write-2.ensures.ends tells_2) in
    waits 2 ps c.args.gate c.args.payload.now _ _
    (went-sync 2 ps c.args.gate c.args.payload.now _ _ _ c.sync-2.result gate
    (c.sync-2.ensures.ends (c.write-2.ensures.same ∙ tells_2)))

pub returns-in_err-write-clause-no_longer : goal.returns-in_err-write-clause-no_longer
returns-in_err-write-clause-no_longer g c tells =
    let bytes = length-closed c.args.payload.now _ (c.deref.ensures.value ∙ c.in_ok-put_closed_frame.ensures) in
    omega
    (arith, bytes, c.write.ensures.no_longer tells)

pub returns-in_err-sync-clause-no_longer : goal.returns-in_err-sync-clause-no_longer
returns-in_err-sync-clause-no_longer g c tells =
    let bytes = length-closed c.args.payload.now _ (c.deref.ensures.value ∙ c.in_ok-put_closed_frame.ensures) in
    let tells_1 = c.write.ensures.same ∙ tells in
    omega
    (arith, bytes, c.write.ensures.no_longer tells, length-synced _ _ _ (c.sync.ensures.ends tells_1))

pub returns-in_err-write-2-clause-no_longer : goal.returns-in_err-write-2-clause-no_longer
returns-in_err-write-2-clause-no_longer g c tells =
    let bytes = length-closed c.args.payload.now _ (c.deref.ensures.value ∙ c.in_ok-put_closed_frame.ensures) in
    let tells_1 = c.write.ensures.same ∙ tells in
    let tells_2 = c.sync.ensures.same ∙ tells_1 in
    omega (
      arith,
      bytes,
      c.write.ensures.no_longer tells,
      length-synced _ _ _ (c.sync.ensures.ends tells_1),
      c.write-2.ensures.no_longer tells_2,
    )

pub returns-clause-no_longer : goal.returns-clause-no_longer
returns-clause-no_longer g c tells =
    let bytes = length-closed c.args.payload.now _ (c.deref.ensures.value ∙ c.in_ok-put_closed_frame.ensures) in
    let tells_1 = c.write.ensures.same ∙ tells in
    let tells_2 = c.sync.ensures.same ∙ tells_1 in
    let tells_3 = c.write-2.ensures.same ∙ tells_2 in
    omega (
      arith,
      bytes,
      c.write.ensures.no_longer tells,
      length-synced _ _ _ (c.sync.ensures.ends tells_1),
      c.write-2.ensures.no_longer tells_2,
      length-synced _ _ _ (c.sync-2.ensures.ends tells_3),
    )
