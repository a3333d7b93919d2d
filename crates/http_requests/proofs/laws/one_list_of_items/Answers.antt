use Rattle.http_requests.proofs.ItemLaws.{items-unique}
use Rattle.http_requests.proofs.laws.one_list_of_items.Goals as goal

pub returns : goal.returns
returns c bytes items others end other x y = items-unique bytes items others end other x y
