-- What is kept of a worker between its steps, and what a step of it says.
use Rattle.std.specs.Prelude.{◌≡◌, ◌-◌, ℕ, List, Option, Some, None, Result, Ok, Err, ⊤}
use Rattle.link_io.specs.Telling.{add_told}
use Rattle.worker_core.specs.declared.action.Action.{Action}
use Rattle.worker_core.specs.declared.action.Action.TheVariants.{AskLease, RunTest, Stop}
use Rattle.worker_core.specs.declared.event.Event.{Event}
use Rattle.worker_core.specs.declared.event.Event.TheVariants.{Leased}
use Rattle.worker_core.specs.Runs.{Asked}
use Rattle.worker_core.specs.declared.runner.Ran.{Ran}
use Rattle.worker_agent.specs.declared.answer.LeaseAnswer.{LeaseAnswer}
use Rattle.worker_agent.specs.Steps.{AgentState, Does, IsStep, Step, ran}
use Rattle.worker_agent.specs.Told.{Told, told_step}
use Rattle.worker_agent.specs.Work.{GivesUp, IsDone, IsEndedBy, Last, told_last}
use Rattle.worker_agent.specs.declared.worked.Worked.{Worked}
use Rattle.worker_agent.specs.declared.worked.WorkFault.{WorkFault}

-- where a test is to be run, the lease of the run is held
abbrev pub Holds : Option Action → Option LeaseAnswer → Type 0
Holds (Some (RunTest run)) (Some lease) = lease.run ≡ run
Holds (Some (RunTest run)) None = ⊥
Holds last held = ⊤

-- the action is the core's last, and the lease that it needs is held
pub record IsAgent (last : Option Action) (action : Action) (held : Option LeaseAnswer) : Type 0 where
  pub action_is : last ≡ Some action
  pub holds : Holds last held

-- an event that brings no lease
abbrev pub IsOther : Event → Type 0
IsOther (Leased run) = ⊥
IsOther event = ⊤

-- a lease is asked for
abbrev pub AsksLease : Option Action → Type 0
AsksLease (Some (AskLease key)) = ⊤
AsksLease last = ⊥

-- something is left to do
abbrev pub IsActive : Option Action → Type 0
IsActive (Some (Stop end)) = ⊥
IsActive last = ⊤

-- a test is to be run
abbrev pub IsTest : Option Action → Type 0
IsTest (Some (RunTest run)) = ⊤
IsTest last = ⊥

-- the runner ran the test of the lease that is held, and answered so
abbrev pub AsksRunner : Option Action → Option LeaseAnswer → (before after : Option (List Asked)) → Ran → Type 0
AsksRunner last lease before after answer =
    (asked : Asked) × (after ≡ add_told asked before) × (asked.answer ≡ answer)
    × ((worker : List ℕ) → Does worker last lease (ran asked))

-- what one step says, by what was told before and after it
abbrev pub StepSays : {A : Type 0} → (worker : List ℕ) → (agent now : AgentState) → (before after : Told) → Result A WorkFault →
    Type 0
StepSays worker agent now before after (Ok done) =
    (step : Step) × (event : Event) × IsStep worker agent step event now × (after ≡ told_step step before)
StepSays worker agent now before after (Err fault) =
    (last : Last) × IsEndedBy worker agent last fault × (after ≡ told_last last before)

-- what a worker that stopped answers
abbrev pub Finishes : AgentState → (runs : ℕ) → Result Worked WorkFault → Type 0
Finishes agent runs (Ok worked) =
    IsDone agent.core.last worked.idle × (worked.leased ≡ runs - agent.core.left) × (worked.reported ≡ runs - agent.core.left)
Finishes agent runs (Err fault) = GivesUp agent fault
