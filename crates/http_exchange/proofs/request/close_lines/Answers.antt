use Rattle.std.proofs.Common.{refl}
use Rattle.http_exchange.specs.Requests.{close_lines}
use Rattle.http_exchange.proofs.request.close_lines.Goals as goal

pub returns : goal.returns
unfolding close_lines
returns c = refl
