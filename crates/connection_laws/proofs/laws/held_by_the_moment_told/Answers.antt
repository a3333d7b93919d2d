use Rattle.std.proofs.Common.{ℕ}
use Rattle.link_io.specs.declared.clock.Clock as clock
use Rattle.connection_laws.specs.Moments.{Given, GivenBy, IsTold, MayCount, at_moment, at_count, given_by}
use Rattle.connection_laws.specs.Progress.{progress_at}
use Rattle.connection_laws.proofs.Moments.{held-more}
use Rattle.connection_laws.proofs.laws.held_by_the_moment_told.Goals as goal

given-told : {C D : Type 0} (meant : clock.Ghosts C) (c : C) (count : D → ℕ) (given : Given)
    → GivenBy meant c count given
    → given_by (IsTold (meant.told c)) (MayCount count) given
given-told meant c count (at_moment at) gives = gives.1
given-told meant c count (at_count faults) gives = gives

pub returns : goal.returns
returns g c start final taken put over whole h =
    held-more (GivenBy g.C.Clock c.args.clock.now g.D.Disk.count)
    (given_by (IsTold (g.C.Clock.told c.args.clock.now)) (MayCount g.D.Disk.count))
    (given-told g.C.Clock c.args.clock.now g.D.Disk.count) (progress_at start) final g.S.Said.said taken put over
    whole h
