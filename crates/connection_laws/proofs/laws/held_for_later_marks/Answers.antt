use Rattle.connection_laws.specs.Progress.{progress_at}
use Rattle.connection_laws.proofs.Loop.{held-longer}
use Rattle.connection_laws.specs.Moments.{GivenBy}
use Rattle.connection_laws.proofs.laws.held_for_later_marks.Goals as goal

pub returns : goal.returns
returns g c start final later taken put over whole f h =
    held-longer (progress_at start) final later (GivenBy g.C.Clock c.args.clock.now g.D.Disk.count) g.S.Said.said taken
    put over whole f h
