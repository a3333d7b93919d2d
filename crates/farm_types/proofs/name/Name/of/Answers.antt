use Rattle.std.proofs.Common.{arith}
use Rattle.std.proofs.lemmas.Grind.{common_steps}
use Rattle.farm_types.proofs.NameTexts.{IsName-from_no_fault}
use Rattle.farm_types.proofs.name.Name.of.Goals as goal

pub invariant_of-result : goal.invariant_of-result
invariant_of-result c = rw c.in-Ok.ensures.ok (IsName-from_no_fault _ (grind (arith, common_steps)))
