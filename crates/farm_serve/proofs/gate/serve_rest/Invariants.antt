use Rattle.std.proofs.Common.{◌≡◌}
use Rattle.farm_serve.specs.Nexts.{IsReaderOf}
use Rattle.farm_serve.proofs.gate.serve_rest.Given as goal

abbrev pub invariant-loop-reader : goal.invariant-loop-reader
invariant-loop-reader g l = record {
  reader : IsReaderOf g.J.Naming.entry l.reader;
  parts : l.mine.parts ≡ l.fn.mine.parts;
  amount : l.mine.amount ≡ l.fn.mine.amount;
}

abbrev pub decreases-loop-reader : goal.decreases-loop-reader
decreases-loop-reader g l = l.gate.left
