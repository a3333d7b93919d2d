use Rattle.judge.proofs.Endings.{counted-after_all, standing-after_all}
use Rattle.judge.proofs.laws.an_ended_search_stays.Goals as goal

pub returns-clause-runs : goal.returns-clause-runs
returns-clause-runs c = counted-after_all

pub returns-clause-standing : goal.returns-clause-standing
returns-clause-standing c = standing-after_all
