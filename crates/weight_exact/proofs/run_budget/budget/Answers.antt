use Rattle.std.proofs.Common.{◌≡◌, ap, ◌∙◌, arith}
use Rattle.weight_exact.proofs.Budgeting.{logarithm_is_budget, greatest_factor_told, five_runs_fit, few_runs_fit}
use Rattle.weight_exact.proofs.Budgets.{IsBudget-is}
use Rattle.weight_exact.specs.Budget.{IsBudget}
use Rattle.weight_exact.specs.Factors.{factors_of, greatest_factor}
use Rattle.weight_exact.proofs.run_budget.budget.Goals as goal

pub logarithm-requires-clause-two : goal.logarithm-requires-clause-two
logarithm-requires-clause-two c =
    rw (c.greatest-greatest.ensures, c.of.ensures.value)
    (greatest_factor_told c.args.rate c.args.miss c.requires.told)

is_budget : (c : goal.After-logarithm) → IsBudget c.args.prior_total (factors_of c.args.rate c.args.miss) c.logarithm.result
is_budget c =
    let base_is : c.greatest-greatest.result ≡ greatest_factor (factors_of c.args.rate c.args.miss) =
    c.greatest-greatest.ensures ∙ ap greatest_factor c.of.ensures.value in
    logarithm_is_budget c.args.prior_total (factors_of c.args.rate c.args.miss) c.greatest-greatest.result c.logarithm.result (omega arith)
    (rw base_is (greatest_factor_told c.args.rate c.args.miss c.requires.told)) base_is
    (rw (← c.from.ensures) c.logarithm.ensures.power_le) (rw (← c.from.ensures) c.logarithm.ensures.next_power_gt)

pub returns-clause-fits : goal.returns-clause-fits
returns-clause-fits c = (is_budget c).fits

pub returns-clause-greatest : goal.returns-clause-greatest
returns-clause-greatest c = (is_budget c).greatest

pub returns-clause-value : goal.returns-clause-value
returns-clause-value c =
    IsBudget-is c.args.prior_total (factors_of c.args.rate c.args.miss) c.logarithm.result (omega arith)
    (greatest_factor_told c.args.rate c.args.miss c.requires.told) (is_budget c)

pub returns-clause-lowest : goal.returns-clause-lowest
returns-clause-lowest c =
    (is_budget c).greatest 5 (five_runs_fit c.args.prior_total (greatest_factor (factors_of c.args.rate c.args.miss))
    c.requires.at_most (rw c.of.ensures.value at c.of.ensures.at_most))

pub returns-clause-highest : goal.returns-clause-highest
returns-clause-highest c =
    few_runs_fit c.args.prior_total (greatest_factor (factors_of c.args.rate c.args.miss)) c.logarithm.result c.requires.at_least
    (greatest_factor_told c.args.rate c.args.miss c.requires.told) (is_budget c).fits
