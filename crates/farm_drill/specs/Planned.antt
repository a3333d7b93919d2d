-- What the reports of a drill say: what the plan says of their runs.
use Rattle.std.specs.Prelude.{◌≡◌, ◌<◌, ℕ, List, length, slice_get, Some, ⊤}
use Rattle.weight_exact.specs.declared.run.Verdict.{Verdict}
use Rattle.farm_entry.specs.History.{lease_of}
use Rattle.farm_entry.specs.declared.command.Command.{Command}
use Rattle.farm_entry.specs.declared.command.Command.TheVariants as command
use Rattle.farm_entry.specs.declared.entry.Entry.{Entry}
use Rattle.farm_entry.specs.declared.entry.What.{What}
use Rattle.farm_entry.specs.declared.entry.What.TheVariants.{Reported, Skipped}
use Rattle.farm_entry.specs.declared.lease.LeasedRun.{LeasedRun}
use Rattle.turn_lock.specs.Places.{IsOneOf}
use Rattle.drill_plan.specs.Plan.{planned_verdict}

-- a run of a history was handed out, and this is what the plan says of it
pub record IsPlanned (H : List Entry) (run : ℕ) (verdict : Verdict) : Type 0 where
  pub lease : LeasedRun
  pub leased : lease_of H run ≡ Some lease
  pub says : verdict ≡ planned_verdict lease.search lease.position

-- what an entry reports is what the plan says, and none reports that a tree can't be tested
abbrev pub SaysPlan : List Entry → What → Type 0
SaysPlan H (Reported run verdict _) = IsPlanned H run verdict
SaysPlan H (Skipped run _) = ⊥
SaysPlan H _ = ⊤

-- the entry at a place of a history does so
pub record IsPlannedAt (H : List Entry) (place : ℕ) : Type 0 where
  pub entry : Entry
  pub there : slice_get H place ≡ Some entry
  pub says : SaysPlan H entry.what

-- all entries of a history do
abbrev pub GoesByPlan : List Entry → Type 0
GoesByPlan H = (place : ℕ) → place < length H → IsPlannedAt H place

-- those at these places do
abbrev pub ArePlanned : List Entry → List ℕ → Type 0
ArePlanned H places = (place : ℕ) → IsOneOf places place → IsPlannedAt H place

-- what a command reports, if it does, is what the plan says at a history
abbrev pub AsksByPlan : List Entry → Command → Type 0
AsksByPlan H (command.Report run verdict) = IsPlanned H run verdict
AsksByPlan H (command.Skip run) = ⊥
AsksByPlan H _ = ⊤
