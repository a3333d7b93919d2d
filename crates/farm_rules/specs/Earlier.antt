-- The earlier of two candidates, where either may be missing.
use Rattle.std.specs.Prelude.{Option, Some, None}
use Rattle.farm_rules.specs.Orders.{earlier}
use Rattle.farm_rules.specs.declared.orders.Candidate.{Candidate}

-- of the earliest search of a list and that of a later list, the earlier
abbrev pub earlier_of : Option Candidate → Option Candidate → Option Candidate
earlier_of None later = later
earlier_of (Some best) later = Some (earlier best later)
