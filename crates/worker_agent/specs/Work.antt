-- What the work of a worker comes to.
use Rattle.std.specs.Prelude.{◌≡◌, ◌⊎◌, ℕ, Bool, true, false, List, ◌∷◌, Option, Some, Result, Ok, Err, ⊤}
use Rattle.http_exchange.specs.Exchanges.{Exchange, IsPut}
use Rattle.worker_core.specs.Leases.{leases_taken}
use Rattle.worker_core.specs.Reports.{reports_noted}
use Rattle.worker_core.specs.Steps.{core_start}
use Rattle.worker_core.specs.declared.action.Action.{Action}
use Rattle.worker_core.specs.declared.action.Action.TheVariants.{AskLease, SendReport, Stop}
use Rattle.worker_core.specs.declared.action.End.TheVariants as end
use Rattle.worker_core.specs.declared.event.Event.{Event}
use Rattle.worker_core.specs.declared.event.Event.TheVariants.{Begin}
use Rattle.worker_agent.specs.Requests.{lease_request, report_request}
use Rattle.worker_agent.specs.Steps.{AgentState, AreSteps, Does, Step, agent_start, event_of}
use Rattle.worker_agent.specs.Told.{Told, told_exchange, told_step, told_steps}
use Rattle.worker_agent.specs.declared.worked.Worked.{Worked}
use Rattle.worker_agent.specs.declared.worked.WorkFault.{WorkFault}
use Rattle.worker_agent.specs.declared.worked.WorkFault.TheVariants.{Memory, NetFault, Peer}

-- What a worker did after its last step that came to an event: nothing, a step by which the work ended, or a request
-- for whose answer memory ran out
pub data Last : Type 0 where
  nothing : Last
  ended_by : Step → Last
  cut_off : Exchange → Last

abbrev pub told_last : Last → Told → Told
told_last nothing told = told
told_last (ended_by step) told = told_step step told
told_last (cut_off x) told = told_exchange x told

-- the request of an action was put, or a prefix of it
abbrev pub Tries : (worker : List ℕ) → Option Action → Exchange → Type 0
Tries worker (Some (AskLease key)) x = IsPut (lease_request key worker) x
Tries worker (Some (SendReport run tested)) x = IsPut (report_request run tested) x
Tries worker action x = ⊥

-- A fault that ends the work in its midst: memory runs out, for a request or for its answer; or the answer is none that
-- continues the work, or the runner failed
abbrev pub IsEndedBy : (worker : List ℕ) → AgentState → Last → WorkFault → Type 0
IsEndedBy worker agent nothing Memory = ⊤
IsEndedBy worker agent (cut_off x) Memory = Tries worker agent.core.last x
IsEndedBy worker agent (ended_by step) Memory = ⊥
IsEndedBy worker agent (ended_by step) fault =
    Does worker agent.core.last agent.lease step × (event_of agent.core.last step ≡ Err fault)
IsEndedBy worker agent last fault = ⊥

-- a worker that gave up a request is answered by a fault of the network where the last try met one, else by the status
-- that it was lost with
abbrev pub GivesUp : AgentState → WorkFault → Type 0
GivesUp agent NetFault =
    (status : ℕ) × (agent.core.last ≡ Some (Stop (end.Peer status))) × (agent.faulted ≡ true)
GivesUp agent (Peer status) = (agent.core.last ≡ Some (Stop (end.Peer status))) × (agent.faulted ≡ false)
GivesUp agent fault = ⊥

-- the events that a worker was told: that it begins, and what came of its steps
abbrev pub events_of : List Event → List Event
events_of events = Begin ∷ events

-- why a worker is done
abbrev pub IsDone : Option Action → (idle : Bool) → Type 0
IsDone last true = last ≡ Some (Stop end.Idle)
IsDone last false = last ≡ Some (Stop end.Limit)

-- how the work ends after steps of which this came
abbrev pub Ends : (worker : List ℕ) → (runs : ℕ) → List Event → AgentState → Last → Result Worked WorkFault → Type 0
Ends worker runs events agent nothing (Ok worked) =
    IsDone agent.core.last worked.idle
    × (worked.leased ≡ leases_taken (core_start runs) (events_of events))
    × (worked.reported ≡ reports_noted (core_start runs) (events_of events))
Ends worker runs events agent last (Ok worked) = ⊥
Ends worker runs events agent last (Err fault) = IsEndedBy worker agent last fault ⊎ ((last ≡ nothing) × GivesUp agent fault)

-- The work of a worker of this name that is to take so many leases: it begins, takes its steps one after the other,
-- and ends. What the network, the runner and the source of keys tell of it is just that
pub record Works (worker : List ℕ) (runs : ℕ) (before after : Told) (result : Result Worked WorkFault) : Type 0 where
  pub steps : List Step
  pub events : List Event
  pub agent : AgentState
  pub last : Last
  pub are : AreSteps worker (agent_start runs) steps events agent
  pub tells : after ≡ told_last last (told_steps steps before)
  pub ends : Ends worker runs events agent last result
