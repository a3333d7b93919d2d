use Rattle.std.proofs.Common.{◌≡◌}
use Rattle.farm_serve.specs.Nexts.{IsReaderOf}
use Rattle.farm_serve.proofs.handlers.handle.Given as goal

abbrev pub invariant-loop : goal.invariant-loop
invariant-loop g l = record {
  goes : (goal.iterator-loop g).can_next l.iterator';
  ends : (goal.iterator-loop g).is_finite l.iterator';
  reader : IsReaderOf g.J.Naming.entry l.reader;
  parts : l.share.parts ≡ 1;
  amount : l.share.amount ≡ 0;
}
