use Rattle.http_requests.proofs.FrontLaws.{opens-shut}
use Rattle.http_requests.proofs.laws.a_settled_item_closes.Goals as goal

pub returns : goal.returns
returns c bytes more items item x shut settled = opens-shut bytes items item x shut settled more
