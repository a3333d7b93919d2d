-- What each end leaves, from what the birth leaves.
use Rattle.std.proofs.Common.{◌≡◌, ◌∙◌, ap, true}
use Rattle.farm_disk.specs.Images.{DiskState}
use Rattle.farm_disk.proofs.Moments.{since_sync-rested, leaves_only-start, leaves_only-rested}
use Rattle.farm_journal.specs.Layout.{is_unborn}
use Rattle.farm_journal.specs.Created.{IsUnborn, IsUnbornOrFirst}
use Rattle.farm_journal.proofs.Births.{since_sync-none, each-start, synced-run, synced-both, synced-unborn}
use Rattle.farm_journal.proofs.creating.found.Goals as goal

pub returns-in_err-frame-clause-since_sync : goal.returns-in_err-frame-clause-since_sync
returns-in_err-frame-clause-since_sync g c tells test =
    since_sync-none (g.D.Disk.told c.args.disk.now) (IsUnbornOrFirst c.args.payload.now)

pub returns-in_err-frame-clause-any_moment : goal.returns-in_err-frame-clause-any_moment
returns-in_err-frame-clause-any_moment g c tells test each =
    each-start c.args.payload.now (g.D.Disk.told c.args.disk.now) each

pub returns-in_err-sync-clause-since_sync : goal.returns-in_err-sync-clause-since_sync
returns-in_err-sync-clause-since_sync g c tells test =
    since_sync-rested _ _ (IsUnbornOrFirst c.args.payload.now) (c.in_err-sync.ensures.ends tells)

pub returns-in_err-sync-clause-any_moment : goal.returns-in_err-sync-clause-any_moment
returns-in_err-sync-clause-any_moment g c tells test each =
    leaves_only-rested _ _ _ (IsUnbornOrFirst c.args.payload.now)
    (each-start c.args.payload.now (g.D.Disk.told c.args.disk.now) each) (c.in_err-sync.ensures.ends tells)

pub returns-clause-since_sync : goal.returns-clause-since_sync
returns-clause-since_sync g c tells test =
    let synced = c.in_ok-sync.ensures.ends tells in
    let still : is_unborn (g.D.Disk.told c.sync.new.disk).bytes ≡ true =
    ap (λ (d : DiskState). is_unborn d.bytes) synced ∙ test in
    synced-run c.args.payload.now _ _ _ synced (c.found_synced.ensures.any_moment (c.sync.ensures.same ∙ tells) still)

pub returns-clause-any_moment : goal.returns-clause-any_moment
returns-clause-any_moment g c tells test each =
    let synced = c.in_ok-sync.ensures.ends tells in
    let still : is_unborn (g.D.Disk.told c.sync.new.disk).bytes ≡ true =
    ap (λ (d : DiskState). is_unborn d.bytes) synced ∙ test in
    synced-both c.args.payload.now (g.D.Disk.told c.args.disk.now) _ _ each test synced
    (c.found_synced.ensures.any_moment (c.sync.ensures.same ∙ tells) still)

pub returns-in_err-frame-clause-memory : goal.returns-in_err-frame-clause-memory
returns-in_err-frame-clause-memory g c wanting tells test each =
    leaves_only-start (g.D.Disk.told c.args.disk.now) IsUnborn each

pub returns-in_err-sync-clause-memory : goal.returns-in_err-sync-clause-memory
returns-in_err-sync-clause-memory g c wanting tells test each =
    leaves_only-rested _ _ _ IsUnborn (leaves_only-start (g.D.Disk.told c.args.disk.now) IsUnborn each)
    (c.in_err-sync.ensures.ends tells)

pub returns-clause-memory : goal.returns-clause-memory
returns-clause-memory g c wanting tells test each =
    let synced = c.in_ok-sync.ensures.ends tells in
    let still : is_unborn (g.D.Disk.told c.sync.new.disk).bytes ≡ true =
    ap (λ (d : DiskState). is_unborn d.bytes) synced ∙ test in
    synced-unborn (g.D.Disk.told c.args.disk.now) _ _ each test synced
    (c.found_synced.ensures.memory wanting (c.sync.ensures.same ∙ tells) still)
