use Rattle.http_requests.proofs.Read.{reading-append}
use Rattle.http_requests.proofs.laws.readings_stay.Goals as goal

pub returns : goal.returns
returns c reading bytes more is = reading-append reading bytes more is
