use Rattle.judge.proofs.Endings.{fits-after_all}
use Rattle.judge.proofs.laws.counted_runs_fit_the_budget.Goals as goal

pub returns : goal.returns
returns c = fits-after_all
