use Rattle.http_requests.proofs.Read.{nothing-begun}
use Rattle.http_requests.proofs.reading.Reading.new.Goals as goal

pub returns : goal.returns
returns c bytes = c.of_head.ensures.is bytes (nothing-begun bytes)
