use Rattle.std.proofs.Common.{◌≤◌, ◌<◌, ◌-◌}
use Rattle.http_exchange.specs.declared.sending.TheConstants.{MAX_TRIES}
use Rattle.http_exchange.proofs.Sendings.{HasLost}
use Rattle.http_exchange.proofs.sending.send.Given as goal

abbrev pub invariant-loop-left : goal.invariant-loop-left
invariant-loop-left g l = record {
  lost : HasLost l.request (MAX_TRIES - 1 - l.left) (g.N.Network.told l.fn.network) (g.N.Network.told l.network);
  few : l.left < MAX_TRIES;
  falls : g.N.Network.count l.fn.network ≤ g.N.Network.count l.network;
}

abbrev pub decreases-loop-left : goal.decreases-loop-left
decreases-loop-left g l = l.left
