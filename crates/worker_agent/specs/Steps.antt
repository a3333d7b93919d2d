-- What a worker does, step by step, and what comes of each step.
use Rattle.std.specs.Prelude.{◌≡◌, ℕ, Bool, false, List, [], ◌∷◌, Option, Some, None, Result, Ok, ⊤}
use Rattle.farm_types.specs.declared.key.Key.{Key}
use Rattle.http_exchange.specs.Sending.{IsTry, Try, sent_of}
use Rattle.worker_core.specs.Core.{Core}
use Rattle.worker_core.specs.Steps.{core_start, core_step}
use Rattle.worker_core.specs.declared.action.Action.{Action}
use Rattle.worker_core.specs.declared.action.Action.TheVariants.{Draw, AskLease, RunTest, SendReport}
use Rattle.worker_core.specs.declared.event.Event.{Event}
use Rattle.worker_core.specs.declared.event.Event.TheVariants as event
use Rattle.worker_core.specs.Runs.{Asked}
use Rattle.worker_agent.specs.Requests.{lease_request, report_request}
use Rattle.worker_agent.specs.declared.answer.LeaseAnswer.{LeaseAnswer}
use Rattle.worker_agent.specs.Replies.{is_network, lease_event, lease_held, report_event, run_event}
use Rattle.worker_agent.specs.declared.worked.WorkFault.{WorkFault}

-- a worker drew a key, sent a request once, or asked its runner and had an answer
pub data Step : Type 0 where
  drew : Key → Step
  sent : Try → Step
  ran : Asked → Step

-- a worker between two steps: what it is to do, by its core, the lease that it had last, and whether its last request
-- met a fault of the network
pub record AgentState : Type 0 where
  pub core : Core
  pub lease : Option LeaseAnswer
  pub faulted : Bool

-- a worker that is to take so many leases, and has begun
abbrev pub agent_start : (runs : ℕ) → AgentState
agent_start runs = record { core = (core_step (core_start runs) event.Begin).core; lease = None; faulted = false }

-- A step is what the worker is to do. It sends its own request, whole or as far as the connection took it, and has its
-- runner run the test of the lease that it holds, at that lease's commit
abbrev pub Does : (worker : List ℕ) → Option Action → Option LeaseAnswer → Step → Type 0
Does worker (Some Draw) lease (drew key) = ⊤
Does worker (Some (AskLease key)) lease (sent t) = IsTry (lease_request key worker) t
Does worker (Some (SendReport run tested)) lease (sent t) = IsTry (report_request run tested) t
Does worker (Some (RunTest run)) (Some lease) (ran asked) =
    (lease.run ≡ run) × (asked.test ≡ lease.test) × (asked.commit ≡ lease.commit)
Does worker action lease step = ⊥

-- what comes of a step
abbrev pub event_of : Option Action → Step → Result Event WorkFault
event_of (Some (AskLease key)) (sent t) = lease_event (sent_of t.answer)
event_of (Some (SendReport run tested)) (sent t) = report_event (sent_of t.answer)
event_of (Some (RunTest run)) (ran asked) = run_event asked.answer
event_of action (drew key) = Ok (event.Drew key)
event_of action step = Ok event.Begin

-- the lease that is held after a step
abbrev pub lease_after : Option Action → Step → (held : Option LeaseAnswer) → Option LeaseAnswer
lease_after (Some (AskLease key)) (sent t) held = lease_held (sent_of t.answer) held
lease_after action step held = held

-- whether a step met a fault of the network
abbrev pub is_faulted : Step → Bool
is_faulted (sent t) = is_network (sent_of t.answer)
is_faulted (drew key) = false
is_faulted (ran asked) = false

-- the worker once this came of its last action, with the lease that it holds then
abbrev pub agent_after : AgentState → Option LeaseAnswer → Event → (faulted : Bool) → AgentState
agent_after agent lease event faulted = record {
  core = (core_step agent.core event).core;
  lease = lease;
  faulted = faulted;
}

-- one step, and what comes of it
pub record IsStep (worker : List ℕ) (before : AgentState) (step : Step) (event : Event) (after : AgentState) : Type 0 where
  pub does : Does worker before.core.last before.lease step
  pub comes : event_of before.core.last step ≡ Ok event
  pub after_is : after ≡ agent_after before (lease_after before.core.last step before.lease) event (is_faulted step)

-- steps one after the other, and what came of each
abbrev pub AreSteps : (worker : List ℕ) → AgentState → List Step → List Event → AgentState → Type 0
AreSteps worker agent [] [] final = final ≡ agent
AreSteps worker agent (step ∷ steps) (event ∷ events) final =
    (next : AgentState) × IsStep worker agent step event next × AreSteps worker next steps events final
AreSteps worker agent steps events final = ⊥
