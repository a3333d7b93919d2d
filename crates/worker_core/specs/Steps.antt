-- What a worker does, event by event: it takes leases and reports their runs, and sends again what was lost.
use Rattle.std.specs.Prelude.{ℕ, ◌+◌, ◌-◌, ◌==◌, nat_lt, List, [], ◌∷◌, if◌then◌else◌, Option, Some, None}
use Rattle.worker_core.specs.Core.{Core}
use Rattle.worker_core.specs.declared.action.Action.{Action}
use Rattle.worker_core.specs.declared.action.Action.TheVariants.{Draw, AskLease, RunTest, SendReport, Stop}
use Rattle.worker_core.specs.declared.action.End.TheVariants.{Idle, Limit, Peer}
use Rattle.worker_core.specs.declared.event.Event.{Event}
use Rattle.worker_core.specs.declared.event.Event.TheVariants.{Drew, Leased, Nothing, Ran, Noted, Lost}
use Rattle.worker_core.specs.declared.worker.TheConstants.{MAX_TRIES}

-- a worker that did nothing yet
abbrev pub core_start : (runs : ℕ) → Core
core_start runs = record { left = runs; lost = 0; last = None }

-- the worker after a step, and what it does
pub record Stepped : Type 0 where
  pub core : Core
  pub action : Action

-- a new action, with so many leases left. Nothing of it was lost yet
abbrev pub act : (left : ℕ) → Action → Stepped
act left action = record { core = record { left = left; lost = 0; last = Some action }; action = action }

-- the request again, which was lost so often before
abbrev pub again : (left lost : ℕ) → Action → Stepped
again left lost action = record { core = record { left = left; lost = lost; last = Some action }; action = action }

-- a request is lost once more: it is sent again, unless that was the last try
abbrev pub lose : (left lost : ℕ) → Action → (status : ℕ) → Stepped
lose left lost action status =
    if nat_lt (lost + 1) MAX_TRIES then again left (lost + 1) action else act left (Stop (Peer status))

-- the step after an action: what doesn't fit it gives it again
abbrev pub step_after : (left lost : ℕ) → Action → Event → Stepped
step_after left lost Draw (Drew key) = act left (AskLease key)
step_after left lost (AskLease key) (Leased run) = act (left - 1) (RunTest run)
step_after left lost (AskLease key) Nothing = act left (Stop Idle)
step_after left lost (AskLease key) (Lost status) = lose left lost (AskLease key) status
step_after left lost (RunTest run) (Ran tested) = act left (SendReport run tested)
step_after left lost (SendReport run tested) Noted = act left (if left == 0 then Stop Limit else Draw)
step_after left lost (SendReport run tested) (Lost status) = lose left lost (SendReport run tested) status
step_after left lost action event = again left lost action

abbrev pub step_from : (left lost : ℕ) → Option Action → Event → Stepped
step_from left lost None event = act left Draw
step_from left lost (Some action) event = step_after left lost action event

-- one step of a worker
abbrev pub core_step : Core → Event → Stepped
core_step core event = step_from core.left core.lost core.last event

-- a worker after a list of events
abbrev pub core_after : Core → List Event → Core
core_after core [] = core
core_after core (event ∷ events) = core_after (core_step core event).core events
