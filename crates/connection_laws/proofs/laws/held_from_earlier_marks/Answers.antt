use Rattle.std.proofs.Common.{le_refl}
use Rattle.connection_laws.specs.Progress.{progress_at, progress_from}
use Rattle.connection_laws.proofs.Loop.{held-earlier}
use Rattle.connection_laws.specs.Moments.{GivenBy}
use Rattle.connection_laws.proofs.laws.held_from_earlier_marks.Goals as goal

pub returns : goal.returns
returns g c start final seen totals faults taken put over whole a b le h =
    held-earlier (progress_at start) (progress_from seen totals faults) final
    (GivenBy g.C.Clock c.args.clock.now g.D.Disk.count) g.S.Said.said taken put over whole
    (record { seen = a; totals = b; faults = le; left = le_refl 0 }) h
