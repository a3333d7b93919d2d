use Rattle.std.proofs.Common.{refl}
use Rattle.weight_exact.specs.Budget.{budget_of}
use Rattle.leaf_laws.proofs.worked.succession.worked_following.Goals as goal

pub returns-clause-made : goal.returns-clause-made
unfolding budget_of
returns-clause-made c = refl

pub returns-clause-no_candidate : goal.returns-clause-no_candidate
unfolding budget_of
returns-clause-no_candidate c = refl

pub returns-clause-no_order : goal.returns-clause-no_order
unfolding budget_of
returns-clause-no_order c = refl

pub returns-clause-may_be_closed : goal.returns-clause-may_be_closed
unfolding budget_of
returns-clause-may_be_closed c = refl

pub returns-clause-made_full : goal.returns-clause-made_full
unfolding budget_of
returns-clause-made_full c = refl

pub returns-clause-full_day : goal.returns-clause-full_day
unfolding budget_of
returns-clause-full_day c = refl

pub returns-clause-to_take : goal.returns-clause-to_take
unfolding budget_of
returns-clause-to_take c = refl

pub returns-clause-may_not_close : goal.returns-clause-may_not_close
unfolding budget_of
returns-clause-may_not_close c = refl

pub returns-clause-made_next : goal.returns-clause-made_next
unfolding budget_of
returns-clause-made_next c = refl

pub returns-clause-reply : goal.returns-clause-reply
unfolding budget_of
returns-clause-reply c = refl

pub returns-clause-is_legal : goal.returns-clause-is_legal
unfolding budget_of
returns-clause-is_legal c = (tt, (refl, (refl, (refl, (refl, (refl, (refl, (refl, (refl, (refl, (refl, (refl, (refl, tt)))))))))))))

pub returns-clause-taken : goal.returns-clause-taken
unfolding budget_of
returns-clause-taken c = refl

pub returns-clause-carried_over : goal.returns-clause-carried_over
unfolding budget_of
returns-clause-carried_over c = refl

pub returns-clause-given_here : goal.returns-clause-given_here
unfolding budget_of
returns-clause-given_here c = refl

pub returns-clause-all_orders : goal.returns-clause-all_orders
unfolding budget_of
returns-clause-all_orders c = refl
