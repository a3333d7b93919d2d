use Rattle.std.proofs.Common.{◌≡◌, ◌+◌, ◌^◌, length}
use Rattle.weight_exact.specs.PowerTable.{AreFirstPowers}
use Rattle.weight_exact.proofs.power_table.powers_up_to.Given as goal

-- the powers up to this exponent are there, and the last one is at hand
abbrev pub invariant-loop-exponent : goal.invariant-loop-exponent
invariant-loop-exponent l = record {
  length : length l.powers.items ≡ l._exponent + 1;
  powers : AreFirstPowers l.fn.base l.powers.items;
  power : l.power ≡ l.fn.base ^ l._exponent;
}
