-- How many reports of a worker the farm has noted.
use Rattle.std.specs.Prelude.{ℕ, ◌+◌, List, [], ◌∷◌, Option, Some}
use Rattle.worker_core.specs.Core.{Core}
use Rattle.worker_core.specs.Steps.{core_step}
use Rattle.worker_core.specs.declared.action.Action.{Action}
use Rattle.worker_core.specs.declared.action.Action.TheVariants.{SendReport}
use Rattle.worker_core.specs.declared.event.Event.{Event}
use Rattle.worker_core.specs.declared.event.Event.TheVariants.{Noted}

-- a report is noted where one was sent and the farm said so
abbrev pub noted_by : Option Action → Event → ℕ
noted_by (Some (SendReport run tested)) Noted = 1
noted_by last event = 0

-- how many reports are noted over a list of events
abbrev pub reports_noted : Core → List Event → ℕ
reports_noted core [] = 0
reports_noted core (event ∷ events) = noted_by core.last event + reports_noted (core_step core event).core events
