use Rattle.std.proofs.Common.{[], arith}
use Rattle.farm_rules.proofs.Noted.{reruns_at-after_reruns}
use Rattle.farm_rules.proofs.verifications.at_most_the_asked_count.Goals as goal

pub returns : goal.returns
returns c = λ culprit asked position noted. reruns_at-after_reruns culprit asked position [] noted (omega arith)
