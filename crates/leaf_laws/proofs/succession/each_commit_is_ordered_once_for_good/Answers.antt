use Rattle.leaf_laws.proofs.Chains.{once-for_all, once-given}
use Rattle.leaf_laws.proofs.succession.each_commit_is_ordered_once_for_good.Goals as goal

pub returns : goal.returns
returns c = record { given = once-given; carried_over = once-for_all }
