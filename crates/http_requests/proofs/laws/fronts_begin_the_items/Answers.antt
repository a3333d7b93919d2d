use Rattle.http_requests.proofs.FrontLaws.{fronts-prefix, items-fronts}
use Rattle.http_requests.proofs.laws.fronts_begin_the_items.Goals as goal

pub returns : goal.returns
returns c = record { begin = fronts-prefix; stand = items-fronts }
