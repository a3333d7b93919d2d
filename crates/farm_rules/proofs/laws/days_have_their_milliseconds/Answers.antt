use Rattle.farm_rules.proofs.Days.{day_at-begins, day_at-ends, day_at-le}
use Rattle.farm_rules.proofs.laws.days_have_their_milliseconds.Goals as goal

pub returns-clause-begins : goal.returns-clause-begins
returns-clause-begins _ = day_at-begins

pub returns-clause-ends : goal.returns-clause-ends
returns-clause-ends _ = day_at-ends

pub returns-clause-few : goal.returns-clause-few
returns-clause-few _ = day_at-le
