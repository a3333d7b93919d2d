-- What a worker of a drill holds, does and hears, by the plan.
use Rattle.std.specs.Prelude.{◌≡◌, ℕ, List, Option, Some, None, Result, Ok, Err, IfSome, ⊤}
use Rattle.farm_entry.specs.History.{lease_of}
use Rattle.farm_entry.specs.declared.command.Command.{Command}
use Rattle.farm_entry.specs.declared.command.Command.TheVariants as command
use Rattle.farm_entry.specs.declared.entry.Entry.{Entry}
use Rattle.farm_entry.specs.declared.lease.LeasedRun.{LeasedRun}
use Rattle.worker_core.specs.declared.action.Action.{Action}
use Rattle.worker_core.specs.declared.action.Action.TheVariants as action
use Rattle.worker_core.specs.declared.event.Event.{Event}
use Rattle.worker_core.specs.declared.event.Event.TheVariants as event
use Rattle.worker_core.specs.declared.tested.Tested.{Tested}
use Rattle.worker_core.specs.declared.tested.Tested.TheVariants as tested
use Rattle.drill_plan.specs.Plan.{planned_verdict}
use Rattle.farm_drill.specs.Planned.{IsPlanned}
use Rattle.farm_drill.specs.declared.worker.Ended.{Ended}
use Rattle.farm_drill.specs.declared.worker.Ended.TheVariants as ended
use Rattle.farm_drill.specs.declared.worker.Held.{Held}

-- a command asks for a run
abbrev pub IsLease : Command → Type 0
IsLease (command.Lease key worker) = ⊤
IsLease _ = ⊥

-- what comes of a run that may have been handed out, and what the worker holds then
abbrev pub TakesLease : Option LeasedRun → Result Event Ended → Option Held → Type 0
TakesLease (Some lease) result held =
    (result ≡ Ok (event.Leased lease.run))
    × (held ≡ Some (record { search = lease.search; position = lease.position }))
TakesLease None result held = result ≡ Err ended.Done

-- a run of a history was handed out for the search and the position that are held
pub record IsHeld (H : List Entry) (run : ℕ) (held : Held) : Type 0 where
  pub lease : LeasedRun
  pub leased : lease_of H run ≡ Some lease
  pub search : held.search ≡ lease.search
  pub position : held.position ≡ lease.position

-- the test of what is held says what the plan does
abbrev pub IsRun : Option Held → Event → Type 0
IsRun (Some held) given = given ≡ event.Ran (tested.Verdict (planned_verdict held.search held.position))
IsRun None given = ⊥

-- what a test came to is what the plan says of the run
abbrev pub IsTestedByPlan : List Entry → (run : ℕ) → Tested → Type 0
IsTestedByPlan H run (tested.Verdict verdict) = IsPlanned H run verdict
IsTestedByPlan H run tested.Untestable = ⊥

-- what a worker does, or did last: the test that it runs is of the run that it holds, and it reports what the plan says
abbrev pub ActsByPlan : List Entry → Option Held → Option Action → Type 0
ActsByPlan H held (Some (action.RunTest run)) = IfSome held (IsHeld H run)
ActsByPlan H held (Some (action.SendReport run result)) = IsTestedByPlan H run result
ActsByPlan H held _ = ⊤

-- what came of it: the run that was handed out is held, and its test says what the plan does
abbrev pub CameByPlan : List Entry → Option Held → Option Action → Event → Type 0
CameByPlan H held (Some (action.AskLease key)) (event.Leased run) = IfSome held (IsHeld H run)
CameByPlan H held (Some (action.RunTest run)) (event.Ran result) = IsTestedByPlan H run result
CameByPlan H held _ _ = ⊤
