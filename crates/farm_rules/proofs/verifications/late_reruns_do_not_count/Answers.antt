use Rattle.std.proofs.Common.{[]}
use Rattle.farm_rules.proofs.Noted.{after_reruns-in_time}
use Rattle.farm_rules.proofs.verifications.late_reruns_do_not_count.Goals as goal

pub returns : goal.returns
returns c = λ culprit asked noted. after_reruns-in_time culprit asked [] noted
