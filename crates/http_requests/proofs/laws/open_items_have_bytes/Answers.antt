use Rattle.http_requests.proofs.FrontLaws.{opens-count}
use Rattle.http_requests.proofs.ItemLaws.{open-some}
use Rattle.http_requests.proofs.laws.open_items_have_bytes.Goals as goal

pub returns : goal.returns
returns c = record { one = open-some; all = opens-count }
