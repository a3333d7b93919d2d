-- What contracts see of a source in memory.
use Rattle.link_io.specs.FaultPlan.{PlannedFaults}
use Rattle.link_io.specs.MemInput.{InputInMemory}

-- its input, and the takes that are to fail
pub record SourceInMemory : Type 0 where
  pub input : InputInMemory
  pub plan : PlannedFaults
