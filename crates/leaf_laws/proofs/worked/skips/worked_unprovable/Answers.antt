use Rattle.std.proofs.Common.{refl}
use Rattle.weight_exact.specs.Budget.{budget_of}
use Rattle.leaf_laws.proofs.worked.skips.worked_unprovable.Goals as goal

pub returns-clause-is_legal : goal.returns-clause-is_legal
unfolding budget_of
returns-clause-is_legal c = (tt, (refl, (refl, (refl, (refl, (refl, (refl, (refl, (refl, (refl, tt))))))))))

pub returns-clause-reply : goal.returns-clause-reply
unfolding budget_of
returns-clause-reply c = refl

pub returns-clause-no_run : goal.returns-clause-no_run
unfolding budget_of
returns-clause-no_run c = refl

pub returns-clause-page : goal.returns-clause-page
unfolding budget_of
returns-clause-page c = refl

pub returns-clause-base_is_legal : goal.returns-clause-base_is_legal
unfolding budget_of
returns-clause-base_is_legal c = (tt, (refl, (refl, (refl, (refl, (refl, (refl, (refl, (refl, (refl, (refl, (refl, tt))))))))))))

pub returns-clause-base_reply : goal.returns-clause-base_reply
unfolding budget_of
returns-clause-base_reply c = refl

pub returns-clause-base_page : goal.returns-clause-base_page
unfolding budget_of
returns-clause-base_page c = refl

pub returns-clause-proved_is_legal : goal.returns-clause-proved_is_legal
unfolding budget_of
returns-clause-proved_is_legal c = (tt, (refl, (refl, (refl, (refl, (refl, (refl, (refl, (refl, (refl, (refl, (refl, (refl, (refl, tt))))))))))))))

pub returns-clause-rerun_reply : goal.returns-clause-rerun_reply
unfolding budget_of
returns-clause-rerun_reply c = refl

pub returns-clause-skip_reply : goal.returns-clause-skip_reply
unfolding budget_of
returns-clause-skip_reply c = refl

pub returns-clause-confirmed_reply : goal.returns-clause-confirmed_reply
unfolding budget_of
returns-clause-confirmed_reply c = refl

pub returns-clause-proved_page : goal.returns-clause-proved_page
unfolding budget_of
returns-clause-proved_page c = refl
