use Rattle.std.proofs.Common.{◌≡◌}
use Rattle.shared_farm.proofs.sharing.wait_for.Given as goal

abbrev pub invariant-loop : goal.invariant-loop
invariant-loop g l = record {
  goes : (goal.iterator-loop g).can_next l.iterator';
  ends : (goal.iterator-loop g).is_finite l.iterator';
  held : l.held ≡ l.fn.posted;
}
