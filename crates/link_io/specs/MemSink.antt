-- What contracts see of a sink in memory.
use Rattle.std.specs.Prelude.{ℕ, List}
use Rattle.link_io.specs.FaultPlan.{PlannedFaults}

-- the bytes that were put, and the puts that are to fail
pub record SinkInMemory : Type 0 where
  pub bytes : List ℕ
  pub plan : PlannedFaults
