use Rattle.connection_laws.proofs.Foreign.{origin-adds_none, origin-after}
use Rattle.connection_laws.specs.Moments.{GivenBy}
use Rattle.connection_laws.proofs.laws.no_request_of_a_page_adds_an_entry.Goals as goal

pub returns-clause-records : goal.returns-clause-records
returns-clause-records g c d bytes item step x origin is =
    origin-adds_none (GivenBy g.C.Clock c.args.clock.now g.D.Disk.count) d bytes item step.outcome x origin is.0

pub returns-clause-stays : goal.returns-clause-stays
returns-clause-stays g c d bytes item step x origin is H ask a same =
    origin-after (GivenBy g.C.Clock c.args.clock.now g.D.Disk.count) d bytes item step.outcome x origin is.0 H ask a
    same
