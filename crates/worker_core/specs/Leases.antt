-- How many leases a worker takes.
use Rattle.std.specs.Prelude.{ℕ, ◌+◌, List, [], ◌∷◌, Option, Some}
use Rattle.worker_core.specs.Core.{Core}
use Rattle.worker_core.specs.Steps.{core_step}
use Rattle.worker_core.specs.declared.action.Action.{Action}
use Rattle.worker_core.specs.declared.action.Action.TheVariants.{AskLease}
use Rattle.worker_core.specs.declared.event.Event.{Event}
use Rattle.worker_core.specs.declared.event.Event.TheVariants.{Leased}

-- a lease is taken where one was asked for and came
abbrev pub taken_by : Option Action → Event → ℕ
taken_by (Some (AskLease key)) (Leased run) = 1
taken_by last event = 0

-- how many leases a worker takes over a list of events
abbrev pub leases_taken : Core → List Event → ℕ
leases_taken core [] = 0
leases_taken core (event ∷ events) = taken_by core.last event + leases_taken (core_step core event).core events
