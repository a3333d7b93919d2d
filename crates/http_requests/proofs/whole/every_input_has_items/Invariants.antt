use Rattle.std.proofs.Common.{length, drop, ◌-◌, ◌≤◌}
use Rattle.http_requests.proofs.FrontLaws.{IsReadTo}
use Rattle.http_requests.proofs.whole.every_input_has_items.Given as goal

-- the items of the bytes up to `from` were read, and none of them closes
abbrev pub invariant-loop-request : goal.invariant-loop-request
invariant-loop-request l = record {
  within : l.from ≤ length l.bytes;
  so_far : IsReadTo l.bytes (drop l.from l.bytes);
}

abbrev pub decreases-loop-request : goal.decreases-loop-request
decreases-loop-request l = length l.bytes - l.from
