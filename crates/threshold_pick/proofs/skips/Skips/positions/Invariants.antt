use Rattle.std.proofs.Common.{◌≡◌}
use Rattle.std.specs.List.{filter, range_with_len}
use Rattle.threshold_pick.specs.Open.{is_skipped}
use Rattle.threshold_pick.proofs.skips.Skips.positions.Given as goal

-- Those before this position are listed
abbrev pub invariant-loop-position : goal.invariant-loop-position
invariant-loop-position l = record {
  listed : l.positions.items ≡ filter (is_skipped l.self) (range_with_len 0 l.position);
}
