use Rattle.std.proofs.Common.{ap}
use Rattle.weight_exact.specs.PowerTable.{PowersOfBase}
use Rattle.weight_exact.proofs.powers.Powers.of.Goals as goal

pub invariant_of-result : goal.invariant_of-result
invariant_of-result c = record {
  fail_in = ap (λ (t : PowersOfBase). t.limit) c.in_ok-of.ensures;
  fail_out = ap (λ (t : PowersOfBase). t.limit) c.in_ok-of-2.ensures;
  pass_in = ap (λ (t : PowersOfBase). t.limit) c.in_ok-of-3.ensures;
  pass_out = ap (λ (t : PowersOfBase). t.limit) c.in_ok-of-4.ensures;
  some_fail_in = rw c.in_ok-of.ensures c.of-factors.ensures.fail_in;
  some_fail_out = rw c.in_ok-of-2.ensures c.of-factors.ensures.fail_out;
  some_pass_out = rw c.in_ok-of-4.ensures c.of-factors.ensures.pass_out;
}
