use Rattle.std.proofs.Common.{refl}
use Rattle.weight_exact.specs.Budget.{budget_of}
use Rattle.leaf_laws.proofs.worked.succession.worked_carrying.Goals as goal

pub returns-clause-may_be_first : goal.returns-clause-may_be_first
unfolding budget_of
returns-clause-may_be_first c = refl

pub returns-clause-is_legal : goal.returns-clause-is_legal
unfolding budget_of
returns-clause-is_legal c = (tt, (refl, tt))

pub returns-clause-no_reply : goal.returns-clause-no_reply
unfolding budget_of
returns-clause-no_reply c = refl

pub returns-clause-no_number : goal.returns-clause-no_number
unfolding budget_of
returns-clause-no_number c = refl

pub returns-clause-not_twice : goal.returns-clause-not_twice
unfolding budget_of
returns-clause-not_twice c = refl

pub returns-clause-another : goal.returns-clause-another
unfolding budget_of
returns-clause-another c = refl

pub returns-clause-not_later : goal.returns-clause-not_later
unfolding budget_of
returns-clause-not_later c = refl

pub returns-clause-last_day : goal.returns-clause-last_day
unfolding budget_of
returns-clause-last_day c = refl

pub returns-clause-no_day : goal.returns-clause-no_day
unfolding budget_of
returns-clause-no_day c = refl

pub returns-clause-not_behind : goal.returns-clause-not_behind
unfolding budget_of
returns-clause-not_behind c = refl

pub returns-clause-not_busy : goal.returns-clause-not_busy
unfolding budget_of
returns-clause-not_busy c = refl
