use Rattle.http_requests.proofs.ItemLaws.{items-append}
use Rattle.http_requests.proofs.laws.closed_items_stay.Goals as goal

pub returns : goal.returns
returns c bytes more items found settled = items-append bytes more items found settled
