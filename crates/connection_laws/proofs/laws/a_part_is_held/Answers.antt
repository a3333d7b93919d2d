use Rattle.connection_laws.proofs.Loop.{so_far-part}
use Rattle.connection_laws.specs.Moments.{GivenBy}
use Rattle.connection_laws.proofs.laws.a_part_is_held.Goals as goal

pub returns : goal.returns
returns g c start final taken put part over items more others steps rest end s i q legal p w told =
    so_far-part start final (GivenBy g.C.Clock c.args.clock.now g.D.Disk.count) g.S.Said.said taken
    put part over items more others steps rest end s i q legal p w told
