use Rattle.std.proofs.Common.{◌≡◌, ◌≤◌, ◌-◌, ◌+◌, ◌*◌, ℕ, List, length}
use Rattle.std.specs.Io.KnownBytes.{append_known}
use Rattle.link_io.specs.declared.source.TheConstants.{INPUT_LIMIT}
use Rattle.http_exchange.specs.Received.{IsHeld}
use Rattle.http_exchange.specs.Responses.{HasJustCome}
use Rattle.http_exchange.proofs.response.take_response.Given as goal

-- the bytes held are those behind the interim responses of the bytes that were taken, and these are no more than needed
abbrev pub invariant-loop-found : goal.invariant-loop-found
invariant-loop-found g l = record {
  taken : (bytes : List ℕ) × (g.S.Source.taken l.link ≡ append_known (g.S.Source.taken l.fn.link) bytes)
      × IsHeld bytes l.received × HasJustCome bytes;
  aside : g.S.Source.aside l.link ≡ g.S.Source.aside l.fn.link;
  never_fell : g.S.Source.count l.fn.link ≤ g.S.Source.count l.link;
}

abbrev pub decreases-loop-found : goal.decreases-loop-found
decreases-loop-found g l = 2 * (INPUT_LIMIT - l.received.taken) + length l.received.held
