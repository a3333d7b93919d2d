use Rattle.std.proofs.Common.{refl}
use Rattle.weight_exact.specs.Budget.{budget_of}
use Rattle.leaf_laws.proofs.worked.worked_keys.Goals as goal

pub returns-clause-lease : goal.returns-clause-lease
unfolding budget_of
returns-clause-lease c = refl

pub returns-clause-cancel : goal.returns-clause-cancel
unfolding budget_of
returns-clause-cancel c = refl

pub returns-clause-revert : goal.returns-clause-revert
unfolding budget_of
returns-clause-revert c = refl

pub returns-clause-open_with_key_of_lease : goal.returns-clause-open_with_key_of_lease
unfolding budget_of
returns-clause-open_with_key_of_lease c = refl

pub returns-clause-same_open : goal.returns-clause-same_open
unfolding budget_of
returns-clause-same_open c = refl

pub returns-clause-other_width : goal.returns-clause-other_width
unfolding budget_of
returns-clause-other_width c = refl

pub returns-clause-same_rate : goal.returns-clause-same_rate
unfolding budget_of
returns-clause-same_rate c = refl

pub returns-clause-other_bar : goal.returns-clause-other_bar
unfolding budget_of
returns-clause-other_bar c = refl

pub returns-clause-shape_first : goal.returns-clause-shape_first
unfolding budget_of
returns-clause-shape_first c = refl

pub returns-clause-shape_before_clash : goal.returns-clause-shape_before_clash
unfolding budget_of
returns-clause-shape_before_clash c = refl
