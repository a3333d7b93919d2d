use Rattle.std.proofs.Common.{◌≡◌, ◌≤◌, length}
use Rattle.common_types.specs.Decimals.{digits_behind}
use Rattle.common_types.proofs.decimals.value_up_to.Given as goal

-- the digits behind go on with the number so far
abbrev pub invariant-loop-digits : goal.invariant-loop-digits
invariant-loop-digits l = record {
  value : digits_behind l.most l.number l.digits ≡ digits_behind l.most 0 l.fn.digits;
  small : l.number ≤ l.most;
}

abbrev pub decreases-loop-digits : goal.decreases-loop-digits
decreases-loop-digits l = length l.digits
