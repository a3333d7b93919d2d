use Rattle.connection_laws.specs.Progress.{progress_at}
use Rattle.connection_laws.proofs.Loop.{held-follows}
use Rattle.connection_laws.specs.Moments.{GivenBy}
use Rattle.connection_laws.proofs.laws.what_is_held_goes_on.Goals as goal

pub returns : goal.returns
returns g c start final taken put over whole h =
    let w = held-follows (progress_at start) final (GivenBy g.C.Clock c.args.clock.now g.D.Disk.count) g.S.Said.said
    taken put over whole h in
    record { longer = w.seen; counted = w.totals; more = w.faults }
