use Rattle.std.proofs.Common.{◌≡◌, ◌≤◌, ◌+◌, length}
use Rattle.std.specs.Vec.{vec_capacity}
use Rattle.shared_farm.specs.declared.sharing.TheConstants.{MOST_PARTS}
use Rattle.shared_farm.proofs.Taking.{IsGathering}
use Rattle.shared_farm.proofs.sharing.take_over.Given as goal

abbrev pub invariant-loop : goal.invariant-loop
invariant-loop g l = record {
  gathering : IsGathering l.errands.key l.errands l.fn.parts.items l.parts.items l.group.items l.bytes;
  parts : length l.parts.items ≡ l.counter;
  group : length l.group.items + 1 ≡ l.counter;
  room_parts : MOST_PARTS ≤ vec_capacity l.parts;
  room_group : MOST_PARTS ≤ vec_capacity l.group;
}
