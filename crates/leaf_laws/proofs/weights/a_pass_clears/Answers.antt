use Rattle.weight_exact.proofs.Floors.{weight-floor}
use Rattle.leaf_laws.proofs.Floors.{weight_push_pass_in, weight_push_pass_out, weight_push_fail_below}
use Rattle.leaf_laws.proofs.weights.a_pass_clears.Goals as goal

pub returns-clause-cleared : goal.returns-clause-cleared
returns-clause-cleared c = weight_push_pass_in

pub returns-clause-others : goal.returns-clause-others
returns-clause-others c = weight_push_pass_out

pub returns-clause-for_good : goal.returns-clause-for_good
returns-clause-for_good c = weight-floor

pub returns-clause-fail_below : goal.returns-clause-fail_below
returns-clause-fail_below c = weight_push_fail_below
