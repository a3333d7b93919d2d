use Rattle.std.proofs.Common.{refl}
use Rattle.weight_exact.specs.Budget.{budget_of}
use Rattle.leaf_laws.proofs.worked.worked_prior.Goals as goal

pub returns-clause-made : goal.returns-clause-made
unfolding budget_of
returns-clause-made c = refl

pub returns-clause-is_legal : goal.returns-clause-is_legal
unfolding budget_of
returns-clause-is_legal c = (tt, (refl, (refl, (refl, tt))))

pub returns-clause-all_replies : goal.returns-clause-all_replies
unfolding budget_of
returns-clause-all_replies c = refl
