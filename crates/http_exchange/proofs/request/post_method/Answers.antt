use Rattle.std.proofs.Common.{refl}
use Rattle.http_exchange.specs.Requests.{post_method}
use Rattle.http_exchange.proofs.request.post_method.Goals as goal

pub returns : goal.returns
unfolding post_method
returns c = refl
