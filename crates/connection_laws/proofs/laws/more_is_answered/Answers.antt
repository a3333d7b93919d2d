use Rattle.connection_laws.proofs.Loop.{so_far-append}
use Rattle.connection_laws.specs.Moments.{GivenBy}
use Rattle.connection_laws.proofs.laws.more_is_answered.Goals as goal

pub returns : goal.returns
returns g c start taken put items more steps rest s o q told =
    so_far-append start (GivenBy g.C.Clock c.args.clock.now g.D.Disk.count) g.S.Said.said taken put
    items more steps rest s o q told
