use Rattle.std.proofs.Common.{refl}
use Rattle.http_exchange.specs.Requests.{length_name}
use Rattle.http_exchange.proofs.request.length_name.Goals as goal

pub returns : goal.returns
unfolding length_name
returns c = refl
