use Rattle.std.proofs.Common.{refl}
use Rattle.weight_exact.specs.Budget.{budget_of}
use Rattle.leaf_laws.proofs.worked.skips.worked_skips_at_once.Goals as goal

pub returns-clause-is_legal : goal.returns-clause-is_legal
unfolding budget_of
returns-clause-is_legal c = (tt, (refl, (refl, (refl, (refl, (refl, (refl, (refl, (refl, tt)))))))))

pub returns-clause-no_fifth : goal.returns-clause-no_fifth
unfolding budget_of
returns-clause-no_fifth c = refl

pub returns-clause-pass_reply : goal.returns-clause-pass_reply
unfolding budget_of
returns-clause-pass_reply c = refl

pub returns-clause-late_reply : goal.returns-clause-late_reply
unfolding budget_of
returns-clause-late_reply c = refl

pub returns-clause-reported_again : goal.returns-clause-reported_again
unfolding budget_of
returns-clause-reported_again c = refl

pub returns-clause-untestable : goal.returns-clause-untestable
unfolding budget_of
returns-clause-untestable c = refl

pub returns-clause-single_is_legal : goal.returns-clause-single_is_legal
unfolding budget_of
returns-clause-single_is_legal c = (tt, (refl, (refl, (refl, (refl, (refl, tt))))))

pub returns-clause-single_skip : goal.returns-clause-single_skip
unfolding budget_of
returns-clause-single_skip c = refl

pub returns-clause-single_report : goal.returns-clause-single_report
unfolding budget_of
returns-clause-single_report c = refl

pub returns-clause-single_shares : goal.returns-clause-single_shares
unfolding budget_of
returns-clause-single_shares c = refl
