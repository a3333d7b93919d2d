use Rattle.std.proofs.Common.{refl}
use Rattle.weight_exact.specs.Budget.{budget_of}
use Rattle.leaf_laws.proofs.worked.skips.worked_hidden_culprit.Goals as goal

pub returns-clause-is_legal : goal.returns-clause-is_legal
unfolding budget_of
returns-clause-is_legal c = (tt, (refl, (refl, (refl, (refl, (refl, (refl, (refl, tt))))))))

pub returns-clause-fail_reply : goal.returns-clause-fail_reply
unfolding budget_of
returns-clause-fail_reply c = refl

pub returns-clause-shares_after_fail : goal.returns-clause-shares_after_fail
unfolding budget_of
returns-clause-shares_after_fail c = refl

pub returns-clause-pass_reply : goal.returns-clause-pass_reply
unfolding budget_of
returns-clause-pass_reply c = refl

pub returns-clause-no_run : goal.returns-clause-no_run
unfolding budget_of
returns-clause-no_run c = refl

pub returns-clause-page : goal.returns-clause-page
unfolding budget_of
returns-clause-page c = refl

pub returns-clause-surer_is_legal : goal.returns-clause-surer_is_legal
unfolding budget_of
returns-clause-surer_is_legal c = (tt, (refl, (refl, (refl, (refl, (refl, (refl, (refl, (refl, (refl, tt))))))))))

pub returns-clause-goes_on : goal.returns-clause-goes_on
unfolding budget_of
returns-clause-goes_on c = refl

pub returns-clause-ends : goal.returns-clause-ends
unfolding budget_of
returns-clause-ends c = refl

pub returns-clause-surer_shares : goal.returns-clause-surer_shares
unfolding budget_of
returns-clause-surer_shares c = refl
