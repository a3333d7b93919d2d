use Rattle.farm_rules.proofs.Striking.{due_search-IsPermutation, due_verify-IsPermutation, struck-IsPermutation}
use Rattle.farm_rules.proofs.laws.outstanding_runs_in_any_order.Goals as goal

pub returns-clause-left : goal.returns-clause-left
returns-clause-left _ = struck-IsPermutation

pub returns-clause-searching : goal.returns-clause-searching
returns-clause-searching _ = due_search-IsPermutation

pub returns-clause-verifying : goal.returns-clause-verifying
returns-clause-verifying _ = due_verify-IsPermutation
