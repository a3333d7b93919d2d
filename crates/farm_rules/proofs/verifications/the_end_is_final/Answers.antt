use Rattle.farm_rules.proofs.Noted.{after_reruns-ended}
use Rattle.farm_rules.proofs.verifications.the_end_is_final.Goals as goal

pub returns : goal.returns
returns c = after_reruns-ended
