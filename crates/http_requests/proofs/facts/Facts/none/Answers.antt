use Rattle.http_requests.proofs.Joins.{facts-none}
use Rattle.http_requests.proofs.facts.Facts.none.Goals as goal

pub returns : goal.returns
returns c = facts-none
