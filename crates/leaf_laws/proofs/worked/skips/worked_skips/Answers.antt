use Rattle.std.proofs.Common.{refl}
use Rattle.weight_exact.specs.Budget.{budget_of}
use Rattle.leaf_laws.proofs.worked.skips.worked_skips.Goals as goal

pub returns-clause-made : goal.returns-clause-made
unfolding budget_of
returns-clause-made c = refl

pub returns-clause-is_legal : goal.returns-clause-is_legal
unfolding budget_of
returns-clause-is_legal c = (tt, (refl, (refl, (refl, (refl, (refl, (refl, (refl, (refl, (refl, tt))))))))))

pub returns-clause-first_skip : goal.returns-clause-first_skip
unfolding budget_of
returns-clause-first_skip c = refl

pub returns-clause-next_run : goal.returns-clause-next_run
unfolding budget_of
returns-clause-next_run c = refl

pub returns-clause-page_after_one : goal.returns-clause-page_after_one
unfolding budget_of
returns-clause-page_after_one c = refl

pub returns-clause-last_skip : goal.returns-clause-last_skip
unfolding budget_of
returns-clause-last_skip c = refl

pub returns-clause-no_run : goal.returns-clause-no_run
unfolding budget_of
returns-clause-no_run c = refl

pub returns-clause-page : goal.returns-clause-page
unfolding budget_of
returns-clause-page c = refl

pub returns-clause-counts : goal.returns-clause-counts
unfolding budget_of
returns-clause-counts c = refl

pub returns-clause-cleared_is_legal : goal.returns-clause-cleared_is_legal
unfolding budget_of
returns-clause-cleared_is_legal c = (tt, (refl, (refl, (refl, (refl, (refl, (refl, (refl, tt))))))))

pub returns-clause-pass_reply : goal.returns-clause-pass_reply
unfolding budget_of
returns-clause-pass_reply c = refl

pub returns-clause-shares_after_pass : goal.returns-clause-shares_after_pass
unfolding budget_of
returns-clause-shares_after_pass c = refl

pub returns-clause-last_open : goal.returns-clause-last_open
unfolding budget_of
returns-clause-last_open c = refl
