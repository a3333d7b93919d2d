use Rattle.std.proofs.Common.{arith}
use Rattle.std.proofs.lemmas.Grind.{common_steps}
use Rattle.suspect_range.proofs.Legal.{IsSuspectRange-from_no_fault}
use Rattle.suspect_range.proofs.range.SuspectRange.of.Goals as goal

pub invariant_of-result : goal.invariant_of-result
invariant_of-result c = IsSuspectRange-from_no_fault _ _ _ (grind (arith, common_steps))
