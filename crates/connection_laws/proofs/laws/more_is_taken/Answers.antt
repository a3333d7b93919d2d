use Rattle.connection_laws.proofs.Loop.{so_far-more}
use Rattle.connection_laws.specs.Moments.{GivenBy}
use Rattle.connection_laws.proofs.laws.more_is_taken.Goals as goal

pub returns : goal.returns
returns g c start taken more put items steps s =
    so_far-more start (GivenBy g.C.Clock c.args.clock.now g.D.Disk.count) g.S.Said.said taken more put items steps s
