-- What contracts see of a disk in memory.
use Rattle.farm_disk.specs.Images.{DiskState, Step, still, write, cut, sync}
use Rattle.farm_disk.specs.DiskFault.{PlannedFaults}
use Rattle.farm_disk.specs.declared.call.Call.{Call}
use Rattle.farm_disk.specs.declared.call.Call.TheVariants as call

-- what a call did, without its snapshot
abbrev pub step_of : Call → Step
step_of call.Still = still
step_of (call.Write at n) = write at n
step_of (call.Cut n) = cut n
step_of (call.Sync bytes) = sync bytes.value.items

-- a disk that fails at times: what it holds, and which calls are to fail
pub record DiskInMemory : Type 0 where
  pub disk : DiskState
  pub plan : PlannedFaults
