use Rattle.std.proofs.Common.{le_refl}
use Rattle.connection_laws.specs.Moments.{GivenBy}
use Rattle.connection_laws.proofs.Serving.{served-held}
use Rattle.connection_laws.proofs.laws.what_is_served_is_held.Goals as goal

pub returns : goal.returns
returns g c result start final later seen totals read faults rows link mine kept none a b le f s =
    served-held result start final later seen totals read faults (GivenBy g.C.Clock c.args.clock.now g.D.Disk.count)
    rows link mine kept none (record { seen = a; totals = b; faults = le; left = le_refl 0 }) f s
