use Rattle.std.proofs.Common.{◌≡◌, ◌≤◌, take}
use Rattle.std.specs.Io.KnownBytes.{append_known}
use Rattle.http_answers.specs.Pieces.{joined}
use Rattle.http_answers.proofs.pieces.put_pieces.Given as goal

-- the pieces so far were appended, and nothing else
abbrev pub invariant-loop-piece : goal.invariant-loop-piece
invariant-loop-piece g l = record {
  appended : g.K.Sink.written l.output ≡ append_known (g.K.Sink.written l.fn.output) (joined (take l.piece-index l.pieces));
  aside : g.K.Sink.aside l.output ≡ g.K.Sink.aside l.fn.output;
  never_falls : g.K.Sink.count l.fn.output ≤ g.K.Sink.count l.output;
}
