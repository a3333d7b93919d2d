-- Which calls of a disk in memory are to fail.
use Rattle.std.specs.Prelude.{ℕ, List, [], ◌∷◌, Option, Some, None, if◌then◌else◌, ◌==◌}
use Rattle.common_types.specs.Counts.{next_count}
use Rattle.farm_disk.specs.declared.in_memory.fault_plan.DiskFail.{DiskFail}

-- the calls that are to fail; how many calls were made; and how many of them were to fail
pub record PlannedFaults : Type 0 where
  pub fails : List DiskFail
  pub calls : ℕ
  pub faults : ℕ

-- how many bytes go through at the call of this number, where it is to fail
abbrev pub kept_at : List DiskFail → ℕ → Option ℕ
kept_at [] call = None
kept_at (fail ∷ fails) call = if fail.call == call then Some fail.kept else kept_at fails call

-- the same for the next call
abbrev pub kept_next : PlannedFaults → Option ℕ
kept_next plan = kept_at plan.fails (next_count plan.calls)

-- the plan after a call, through which so many bytes went where it was to fail
abbrev pub plan_after : Option ℕ → PlannedFaults → PlannedFaults
plan_after None plan = record plan { calls = next_count plan.calls }
plan_after (Some kept) plan = record plan { calls = next_count plan.calls; faults = next_count plan.faults }
