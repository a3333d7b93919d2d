use Rattle.std.proofs.Common.{nat_lt, refl, ap}
use Rattle.leaf_laws.proofs.LargeFarm.{large-budget, large_farm-is_legal, searching-8}
use Rattle.leaf_laws.proofs.worked.worked_budget.Goals as goal

pub returns-clause-budget : goal.returns-clause-budget
returns-clause-budget c = large-budget

pub returns-clause-is_legal : goal.returns-clause-is_legal
returns-clause-is_legal c = large_farm-is_legal

pub returns-clause-nine_runs : goal.returns-clause-nine_runs
returns-clause-nine_runs c = refl

pub returns-clause-nine_fates : goal.returns-clause-nine_fates
returns-clause-nine_fates c = refl

pub returns-clause-eight_fails : goal.returns-clause-eight_fails
returns-clause-eight_fails c = refl

pub returns-clause-load_of_eight : goal.returns-clause-load_of_eight
returns-clause-load_of_eight c = refl

pub returns-clause-eighth_within : goal.returns-clause-eighth_within
returns-clause-eighth_within c = ap (λ budget. nat_lt budget 8) large-budget

pub returns-clause-ninth_past : goal.returns-clause-ninth_past
returns-clause-ninth_past c = ap (λ budget. nat_lt budget 9) large-budget

pub returns-clause-before : goal.returns-clause-before
returns-clause-before c = searching-8

pub returns-clause-over : goal.returns-clause-over
returns-clause-over c = refl

pub returns-clause-no_run : goal.returns-clause-no_run
returns-clause-no_run c = refl

pub returns-clause-ended : goal.returns-clause-ended
returns-clause-ended c = refl
