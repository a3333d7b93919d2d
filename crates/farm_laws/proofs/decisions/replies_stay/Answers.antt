use Rattle.farm_laws.proofs.Replies.{reply-same, reply-there}
use Rattle.farm_laws.proofs.decisions.replies_stay.Goals as goal

pub returns : goal.returns
returns c = record { there = reply-there; same = reply-same }
