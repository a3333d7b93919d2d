use Rattle.weight_exact.proofs.Budgets.{IsBudget-budget_of, IsBudget-is, Fits_few, Fits-fewer}
use Rattle.leaf_laws.proofs.weights.there_is_one_budget.Goals as goal

pub returns-clause-computed : goal.returns-clause-computed
returns-clause-computed c = IsBudget-budget_of

pub returns-clause-only : goal.returns-clause-only
returns-clause-only c = IsBudget-is

pub returns-clause-few : goal.returns-clause-few
returns-clause-few c = Fits_few

pub returns-clause-smaller : goal.returns-clause-smaller
returns-clause-smaller c = Fits-fewer
