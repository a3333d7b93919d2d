use Rattle.std.proofs.Common.{refl}
use Rattle.weight_exact.specs.Budget.{budget_of}
use Rattle.leaf_laws.proofs.worked.worked_width.Goals as goal

pub returns-clause-made : goal.returns-clause-made
unfolding budget_of
returns-clause-made c = refl

pub returns-clause-is_legal : goal.returns-clause-is_legal
unfolding budget_of
returns-clause-is_legal c = (tt, (refl, (refl, (refl, (refl, (refl, (refl, tt)))))))

pub returns-clause-three_runs : goal.returns-clause-three_runs
unfolding budget_of
returns-clause-three_runs c = refl

pub returns-clause-no_fourth : goal.returns-clause-no_fourth
unfolding budget_of
returns-clause-no_fourth c = refl

pub returns-clause-pass_reply : goal.returns-clause-pass_reply
unfolding budget_of
returns-clause-pass_reply c = refl

pub returns-clause-late_reply : goal.returns-clause-late_reply
unfolding budget_of
returns-clause-late_reply c = refl

pub returns-clause-all_fates : goal.returns-clause-all_fates
unfolding budget_of
returns-clause-all_fates c = refl
