use Rattle.std.proofs.Common.{refl}
use Rattle.http_exchange.specs.Requests.{host_lines}
use Rattle.http_exchange.proofs.request.host_lines.Goals as goal

pub returns : goal.returns
unfolding host_lines
returns c = refl
