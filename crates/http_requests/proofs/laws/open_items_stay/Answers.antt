use Rattle.http_requests.proofs.ItemLaws.{open-append}
use Rattle.http_requests.proofs.laws.open_items_stay.Goals as goal

pub returns : goal.returns
returns c bytes more item next stays = open-append bytes more item next stays
