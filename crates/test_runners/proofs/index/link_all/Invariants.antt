use Rattle.std.proofs.Common.{◌≡◌, ◌≤◌, length, map}
use Rattle.test_runners.specs.Index.{IsLinked, buckets}
use Rattle.test_runners.specs.Rows.{row_seen}
use Rattle.test_runners.proofs.index.link_all.Given as goal

abbrev pub invariant-loop-left : goal.invariant-loop-left
invariant-loop-left l = record {
  linked : IsLinked (buckets (length l.fn.heads) (map row_seen l.rows)) l.left l.heads l.next;
  size : length l.heads ≡ length l.fn.heads;
  within : l.left ≤ length l.rows;
}

abbrev pub decreases-loop-left : goal.decreases-loop-left
decreases-loop-left l = l.left
