use Rattle.std.proofs.Common.{◌≡◌, ◌≤◌, ◌<◌, ◌-◌, ◌+◌, ℕ, List, length}
use Rattle.std.specs.Io.KnownBytes.{append_known}
use Rattle.link_io.specs.declared.source.TheConstants.{INPUT_LIMIT, PIECE}
use Rattle.http_exchange.specs.Received.{IsTaken}
use Rattle.http_exchange.proofs.received.Received.take_until.Given as goal

abbrev pub invariant-loop-self : goal.invariant-loop-self
invariant-loop-self g l = record {
  moved : (piece : List ℕ) × (g.S.Source.taken l.link ≡ append_known (g.S.Source.taken l.fn.link) piece)
      × IsTaken l.fn.self l.self piece;
  few : length l.fn.self.held < l.size → length l.self.held < l.size + PIECE;
  aside : g.S.Source.aside l.link ≡ g.S.Source.aside l.fn.link;
  never_fell : g.S.Source.count l.fn.link ≤ g.S.Source.count l.link;
}

abbrev pub decreases-loop-self : goal.decreases-loop-self
decreases-loop-self g l = INPUT_LIMIT - l.self.taken
