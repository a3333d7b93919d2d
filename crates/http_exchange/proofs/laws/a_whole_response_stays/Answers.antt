use Rattle.http_exchange.proofs.Heads.{whole-more, whole-same}
use Rattle.http_exchange.proofs.laws.a_whole_response_stays.Goals as goal

pub returns : goal.returns
returns c = record { one = whole-same; stays = whole-more }
