use Rattle.suspect_range.proofs.Legal.{IsSuspectRange-from_no_fault, no_fault-from_IsSuspectRange}
use Rattle.suspect_range.proofs.laws.ranges_have_no_fault.Goals as goal

pub returns : goal.returns
returns c base suspects calm = (
  IsSuspectRange-from_no_fault base suspects calm,
  no_fault-from_IsSuspectRange base suspects calm,
)
