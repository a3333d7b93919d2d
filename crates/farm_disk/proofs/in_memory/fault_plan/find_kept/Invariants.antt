use Rattle.std.proofs.Common.{◌≡◌, drop}
use Rattle.farm_disk.specs.DiskFault.{kept_at}
use Rattle.farm_disk.proofs.in_memory.fault_plan.find_kept.Given as goal

abbrev pub invariant-loop-fail : goal.invariant-loop-fail
invariant-loop-fail l = kept_at l.fails l.call ≡ kept_at (drop l.fail-index l.fails) l.call
