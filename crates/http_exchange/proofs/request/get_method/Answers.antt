use Rattle.std.proofs.Common.{refl}
use Rattle.http_exchange.specs.Requests.{get_method}
use Rattle.http_exchange.proofs.request.get_method.Goals as goal

pub returns : goal.returns
unfolding get_method
returns c = refl
