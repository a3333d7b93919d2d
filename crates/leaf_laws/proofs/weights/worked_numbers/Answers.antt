use Rattle.std.proofs.Common.{refl}
use Rattle.weight_exact.specs.Budget.{budget_of}
use Rattle.leaf_laws.proofs.weights.worked_numbers.Goals as goal

pub returns-clause-budget_of_five : goal.returns-clause-budget_of_five
unfolding budget_of
returns-clause-budget_of_five c = refl

pub returns-clause-budget_of_a_thousand : goal.returns-clause-budget_of_a_thousand
unfolding budget_of
returns-clause-budget_of_a_thousand c = refl

pub returns-clause-budget_of_the_greatest : goal.returns-clause-budget_of_the_greatest
unfolding budget_of
returns-clause-budget_of_the_greatest c = refl

pub returns-clause-budget_at_one_percent : goal.returns-clause-budget_at_one_percent
unfolding budget_of
returns-clause-budget_at_one_percent c = refl

pub returns-clause-budget_with_misses : goal.returns-clause-budget_with_misses
unfolding budget_of
returns-clause-budget_with_misses c = refl
