-- What each end leaves, from what the birth leaves.
use Rattle.std.proofs.Common.{◌∙◌, rules}
use Rattle.std.specs.Result.{IsErrOf}
use Rattle.farm_disk.proofs.Moments.{settled-rested, leaves_only-rested, leaves_only-trans}
use Rattle.farm_journal.specs.Created.{IsUnborn, IsUnbornOrFirst}
use Rattle.farm_journal.specs.declared.disk_calls.DiskFault.TheVariants.{Memory}
use Rattle.farm_journal.proofs.Births.{unborn-start, unborn-still, unborn-begun}
use Rattle.farm_journal.proofs.creating.found_synced.Goals as goal

pub returns-in_err-size-clause-any_moment : goal.returns-in_err-size-clause-any_moment
returns-in_err-size-clause-any_moment g c tells test =
    let p = c.args.payload.now in
    let old = c.requires.settled tells in
    let told = c.size.ensures.same ∙ tells in
    let still = c.size.ensures.still tells in
    let one = unborn-start p (g.D.Disk.told c.args.disk.now) (g.D.Disk.told c.size.new.disk) old test still in
    one

pub returns-in_err-begin-clause-any_moment : goal.returns-in_err-begin-clause-any_moment
returns-in_err-begin-clause-any_moment g c tells test =
    let p = c.args.payload.now in
    let old = c.requires.settled tells in
    let told = c.size.ensures.same ∙ tells in
    let still = c.size.ensures.still tells in
    let one = unborn-start p (g.D.Disk.told c.args.disk.now) (g.D.Disk.told c.size.new.disk) old test still in
    let settled = settled-rested (g.D.Disk.told c.args.disk.now) (g.D.Disk.told c.size.new.disk) old still in
    let two = unborn-begun p (g.D.Disk.told c.args.disk.now) (g.D.Disk.told c.size.new.disk)
    (g.D.Disk.told c.begin.new.disk) one (c.begin.ensures.any_moment told settled) in
    two

pub returns-in_err-begin-clause-memory : goal.returns-in_err-begin-clause-memory
returns-in_err-begin-clause-memory g c wanting tells test =
    let told = c.size.ensures.same ∙ tells in
    let old = c.requires.settled tells in
    let still = c.size.ensures.still tells in
    let settled = settled-rested (g.D.Disk.told c.args.disk.now) (g.D.Disk.told c.size.new.disk) old still in
    leaves_only-trans (g.D.Disk.told c.args.disk.now) (g.D.Disk.told c.size.new.disk) (g.D.Disk.told c.begin.new.disk)
    IsUnborn (unborn-still (g.D.Disk.told c.args.disk.now) (g.D.Disk.told c.size.new.disk) old test still)
    (c.begin.ensures.any_moment told settled)

pub returns-in_err-bear-clause-memory : goal.returns-in_err-bear-clause-memory
returns-in_err-bear-clause-memory g c wanting tells test =
    let bare : IsErrOf c.bear.result Memory = search rules in
    let told = c.size.ensures.same ∙ tells in
    let old = c.requires.settled tells in
    let still = c.size.ensures.still tells in
    let settled = settled-rested (g.D.Disk.told c.args.disk.now) (g.D.Disk.told c.size.new.disk) old still in
    let begun =
    leaves_only-trans (g.D.Disk.told c.args.disk.now) (g.D.Disk.told c.size.new.disk) (g.D.Disk.told c.begin.new.disk)
    IsUnborn (unborn-still (g.D.Disk.told c.args.disk.now) (g.D.Disk.told c.size.new.disk) old test still)
    (c.begin.ensures.any_moment told settled) in
    leaves_only-trans (g.D.Disk.told c.args.disk.now) (g.D.Disk.told c.begin.new.disk) (g.D.Disk.told c.bear.new.disk)
    IsUnborn begun (c.bear.ensures.memory bare (c.begin.ensures.same ∙ told))

pub returns-in_err-bear-2-clause-memory : goal.returns-in_err-bear-2-clause-memory
returns-in_err-bear-2-clause-memory g c wanting tells test =
    let bare : IsErrOf c.bear-2.result Memory = search rules in
    let told = c.size.ensures.same ∙ tells in
    let old = c.requires.settled tells in
    let still = c.size.ensures.still tells in
    let read =
    leaves_only-rested (g.D.Disk.told c.args.disk.now) (g.D.Disk.told c.size.new.disk) (g.D.Disk.told c.read.new.disk)
    IsUnborn (unborn-still (g.D.Disk.told c.args.disk.now) (g.D.Disk.told c.size.new.disk) old test still)
    (c.read.ensures.still told) in
    leaves_only-trans (g.D.Disk.told c.args.disk.now) (g.D.Disk.told c.read.new.disk) (g.D.Disk.told c.bear-2.new.disk)
    IsUnborn read (c.bear-2.ensures.memory bare (c.read.ensures.same ∙ told))

pub returns-in_err-bear-clause-any_moment : goal.returns-in_err-bear-clause-any_moment
returns-in_err-bear-clause-any_moment g c tells test =
    let p = c.args.payload.now in
    let old = c.requires.settled tells in
    let told = c.size.ensures.same ∙ tells in
    let still = c.size.ensures.still tells in
    let one = unborn-start p (g.D.Disk.told c.args.disk.now) (g.D.Disk.told c.size.new.disk) old test still in
    let settled = settled-rested (g.D.Disk.told c.args.disk.now) (g.D.Disk.told c.size.new.disk) old still in
    let two = unborn-begun p (g.D.Disk.told c.args.disk.now) (g.D.Disk.told c.size.new.disk)
    (g.D.Disk.told c.begin.new.disk) one (c.begin.ensures.any_moment told settled) in
    leaves_only-trans (g.D.Disk.told c.args.disk.now) (g.D.Disk.told c.begin.new.disk) (g.D.Disk.told c.bear.new.disk)
    (IsUnbornOrFirst p) two (c.bear.ensures.any_moment (c.begin.ensures.same ∙ told))

pub returns-then-branch-le1-clause-any_moment : goal.returns-then-branch-le1-clause-any_moment
returns-then-branch-le1-clause-any_moment g c tells test =
    let p = c.args.payload.now in
    let old = c.requires.settled tells in
    let told = c.size.ensures.same ∙ tells in
    let still = c.size.ensures.still tells in
    let one = unborn-start p (g.D.Disk.told c.args.disk.now) (g.D.Disk.told c.size.new.disk) old test still in
    let settled = settled-rested (g.D.Disk.told c.args.disk.now) (g.D.Disk.told c.size.new.disk) old still in
    let two = unborn-begun p (g.D.Disk.told c.args.disk.now) (g.D.Disk.told c.size.new.disk)
    (g.D.Disk.told c.begin.new.disk) one (c.begin.ensures.any_moment told settled) in
    leaves_only-trans (g.D.Disk.told c.args.disk.now) (g.D.Disk.told c.begin.new.disk) (g.D.Disk.told c.bear.new.disk)
    (IsUnbornOrFirst p) two (c.bear.ensures.any_moment (c.begin.ensures.same ∙ told))

pub returns-in_err-read-clause-any_moment : goal.returns-in_err-read-clause-any_moment
returns-in_err-read-clause-any_moment g c tells test =
    let p = c.args.payload.now in
    let old = c.requires.settled tells in
    let told = c.size.ensures.same ∙ tells in
    let still = c.size.ensures.still tells in
    let one = unborn-start p (g.D.Disk.told c.args.disk.now) (g.D.Disk.told c.size.new.disk) old test still in
    let two = leaves_only-rested (g.D.Disk.told c.args.disk.now) (g.D.Disk.told c.size.new.disk)
    (g.D.Disk.told c.read.new.disk) (IsUnbornOrFirst p) one (c.read.ensures.still told) in
    two

pub returns-in_err-bear-2-clause-any_moment : goal.returns-in_err-bear-2-clause-any_moment
returns-in_err-bear-2-clause-any_moment g c tells test =
    let p = c.args.payload.now in
    let old = c.requires.settled tells in
    let told = c.size.ensures.same ∙ tells in
    let still = c.size.ensures.still tells in
    let one = unborn-start p (g.D.Disk.told c.args.disk.now) (g.D.Disk.told c.size.new.disk) old test still in
    let two = leaves_only-rested (g.D.Disk.told c.args.disk.now) (g.D.Disk.told c.size.new.disk)
    (g.D.Disk.told c.read.new.disk) (IsUnbornOrFirst p) one (c.read.ensures.still told) in
    leaves_only-trans (g.D.Disk.told c.args.disk.now) (g.D.Disk.told c.read.new.disk) (g.D.Disk.told c.bear-2.new.disk)
    (IsUnbornOrFirst p) two (c.bear-2.ensures.any_moment (c.read.ensures.same ∙ told))

pub returns-clause-any_moment : goal.returns-clause-any_moment
returns-clause-any_moment g c tells test =
    let p = c.args.payload.now in
    let old = c.requires.settled tells in
    let told = c.size.ensures.same ∙ tells in
    let still = c.size.ensures.still tells in
    let one = unborn-start p (g.D.Disk.told c.args.disk.now) (g.D.Disk.told c.size.new.disk) old test still in
    let two = leaves_only-rested (g.D.Disk.told c.args.disk.now) (g.D.Disk.told c.size.new.disk)
    (g.D.Disk.told c.read.new.disk) (IsUnbornOrFirst p) one (c.read.ensures.still told) in
    leaves_only-trans (g.D.Disk.told c.args.disk.now) (g.D.Disk.told c.read.new.disk) (g.D.Disk.told c.bear-2.new.disk)
    (IsUnbornOrFirst p) two (c.bear-2.ensures.any_moment (c.read.ensures.same ∙ told))
