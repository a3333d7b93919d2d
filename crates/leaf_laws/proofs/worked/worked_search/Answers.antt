use Rattle.std.proofs.Common.{refl}
use Rattle.weight_exact.specs.Budget.{budget_of}
use Rattle.leaf_laws.proofs.worked.worked_search.Goals as goal

pub returns-clause-made : goal.returns-clause-made
unfolding budget_of
returns-clause-made c = refl

pub returns-clause-is_legal : goal.returns-clause-is_legal
unfolding budget_of
returns-clause-is_legal c = (tt, (refl, (refl, (refl, (refl, (refl, (refl, (refl, (refl, (refl, (refl, (refl, (refl, tt)))))))))))))

pub returns-clause-page_after_two : goal.returns-clause-page_after_two
unfolding budget_of
returns-clause-page_after_two c = refl

pub returns-clause-page_after_three : goal.returns-clause-page_after_three
unfolding budget_of
returns-clause-page_after_three c = refl

pub returns-clause-all_replies : goal.returns-clause-all_replies
unfolding budget_of
returns-clause-all_replies c = refl

pub returns-clause-counts : goal.returns-clause-counts
unfolding budget_of
returns-clause-counts c = refl
