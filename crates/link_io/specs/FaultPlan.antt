-- Which calls of an object in memory are to fail.
use Rattle.std.specs.Prelude.{ℕ, List, Contains}
use Rattle.common_types.specs.Counts.{next_count}

-- the numbers of the calls that are to fail, from 1; how many calls were made; and how many of them failed
pub record PlannedFaults : Type 0 where
  pub fails : List ℕ
  pub calls : ℕ
  pub faults : ℕ

-- a plan of which no call was made yet
abbrev pub fresh_plan : List ℕ → PlannedFaults
fresh_plan fails = record { fails = fails; calls = 0; faults = 0 }

-- the next call is among those that are to fail
abbrev pub NextFails : PlannedFaults → Type 0
NextFails plan = Contains plan.fails (next_count plan.calls)

-- the plan once a call was made that didn't fail
abbrev pub plan_after_success : PlannedFaults → PlannedFaults
plan_after_success plan = record plan { calls = next_count plan.calls }

-- the plan once a call was made that failed
abbrev pub plan_after_fault : PlannedFaults → PlannedFaults
plan_after_fault plan = record plan { calls = next_count plan.calls; faults = next_count plan.faults }
