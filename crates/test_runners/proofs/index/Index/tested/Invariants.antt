use Rattle.std.proofs.Common.{◌-◌, length, map}
use Rattle.farm_types.specs.CommitId.{id_bytes}
use Rattle.test_runners.specs.Rows.{row_seen}
use Rattle.test_runners.proofs.Chains.{IsSought}
use Rattle.test_runners.proofs.index.Index.tested.Given as goal

abbrev pub invariant-loop-at : goal.invariant-loop-at
invariant-loop-at l = IsSought (length l.self.heads.items) (map row_seen l.rows) l.test (id_bytes l.commit) l.at

abbrev pub decreases-loop-at : goal.decreases-loop-at
decreases-loop-at l = length l.rows - l.at
