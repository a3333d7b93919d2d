-- Steps one after the other.
use Rattle.std.proofs.Common.{◌≡◌, ◌≤◌, ◌+◌, ◌-◌, ℕ, Bool, true, false, List, [], ◌∷◌, ◌++◌, Result, Ok, Err, refl, sym, ap, subst, ◌∙◌, inr, arith}
use Rattle.worker_core.specs.Core.{Core}
use Rattle.worker_core.specs.Leases.{leases_taken}
use Rattle.worker_core.specs.Reports.{reports_noted}
use Rattle.worker_core.specs.Steps.{core_after, core_start}
use Rattle.worker_core.specs.declared.action.End.TheVariants.{Idle, Limit}
use Rattle.worker_core.specs.declared.event.Event.{Event}
use Rattle.worker_core.proofs.Leases.{taken-and-left}
use Rattle.worker_core.proofs.Reports.{noted-all}
use Rattle.worker_agent.specs.Agent.{Finishes, StepSays}
use Rattle.worker_agent.specs.Steps.{AgentState, AreSteps, IsStep, Step, agent_start}
use Rattle.worker_agent.specs.Told.{Told, told_step, told_steps}
use Rattle.worker_agent.specs.Work.{Ends, IsDone, Works, events_of, nothing}
use Rattle.worker_agent.specs.declared.worked.Worked.{Worked}
use Rattle.worker_agent.specs.declared.worked.WorkFault.{WorkFault}

pub steps-on : (worker : List ℕ) (a b c : AgentState) (steps : List Step) (events : List Event) (step : Step) (event : Event) →
    AreSteps worker a steps events b → IsStep worker b step event c →
    AreSteps worker a (steps ++ step ∷ []) (events ++ event ∷ []) c
steps-on worker a b c [] [] step event are is = (c, subst (λ (s : AgentState). IsStep worker s step event c) are is, refl)
steps-on worker a b c [] (x ∷ xs) step event are is = absurd are
steps-on worker a b c (x ∷ xs) [] step event are is = absurd are
steps-on worker a b c (x ∷ xs) (y ∷ ys) step event are is =
    (are.0, are.1, steps-on worker are.0 b c xs ys step event are.2 is)

pub told-on : (steps : List Step) (step : Step) (told : Told) → told_steps (steps ++ step ∷ []) told ≡ told_step step (told_steps steps told)
told-on [] step told = refl
told-on (x ∷ xs) step told = told-on xs step (told_step x told)

-- what was done so far
pub record Went (worker : List ℕ) (runs : ℕ) (agent : AgentState) (before now : Told) : Type 0 where
  pub steps : List Step
  pub events : List Event
  pub are : AreSteps worker (agent_start runs) steps events agent
  pub tells : now ≡ told_steps steps before

pub went-first : (worker : List ℕ) (runs : ℕ) (told : Told) → Went worker runs (agent_start runs) told told
went-first worker runs told = record { steps = []; events = []; are = refl; tells = refl }

pub went-on : {A : Type 0} (worker : List ℕ) (runs : ℕ) (agent next : AgentState) (before now later : Told) (done : A) →
    Went worker runs agent before now → StepSays {A = A} worker agent next now later (Ok done) → Went worker runs next before later
went-on worker runs agent next before now later done went says = record {
  steps = went.steps ++ says.0 ∷ [];
  events = went.events ++ says.1 ∷ [];
  are = steps-on worker (agent_start runs) agent next went.steps went.events says.0 says.1 went.are says.2;
  tells = says.3 ∙ ap (told_step says.0) went.tells ∙ sym (told-on went.steps says.0 before);
}

-- the core of a worker after its steps
core-after : (worker : List ℕ) (a b : AgentState) (steps : List Step) (events : List Event) → AreSteps worker a steps events b →
    b.core ≡ core_after a.core (events)
core-after worker a b [] [] are = ap (λ (s : AgentState). s.core) are
core-after worker a b [] (y ∷ ys) are = absurd are
core-after worker a b (x ∷ xs) [] are = absurd are
core-after worker a b (x ∷ xs) (y ∷ ys) are =
    core-after worker are.0 b xs ys are.2
    ∙ ap (λ (s : AgentState). core_after s.core ys) are.1.after_is

went-core : (worker : List ℕ) (runs : ℕ) (agent : AgentState) (before now : Told) (went : Went worker runs agent before now) →
    agent.core ≡ core_after (core_start runs) (events_of went.events)
went-core worker runs agent before now went = core-after worker (agent_start runs) agent went.steps went.events went.are

pub few-left : (worker : List ℕ) (runs : ℕ) (agent : AgentState) (before now : Told) → 1 ≤ runs → Went worker runs agent before now →
    agent.core.left ≤ runs
few-left worker runs agent before now some went =
    let all : leases_taken (core_start runs) (events_of went.events) + (core_after (core_start runs) (events_of went.events)).left ≡ runs =
    taken-and-left runs (events_of went.events) some in
    let same : agent.core.left ≡ (core_after (core_start runs) (events_of went.events)).left =
    ap (λ (c : Core). c.left) (went-core worker runs agent before now went) in
    omega (arith, all, same)

-- what a worker that is done took and reported
done-counts : (worker : List ℕ) (runs : ℕ) (agent : AgentState) (before now : Told) → 1 ≤ runs →
    (went : Went worker runs agent before now) → (idle : Bool) → IsDone agent.core.last idle → (leased reported : ℕ) →
    leased ≡ runs - agent.core.left → reported ≡ runs - agent.core.left →
    (leased ≡ leases_taken (core_start runs) (events_of went.events))
    × (reported ≡ reports_noted (core_start runs) (events_of went.events))
done-counts worker runs agent before now some went true done leased reported l r =
    let events = events_of went.events in
    let core : agent.core ≡ core_after (core_start runs) (events_of went.events) = went-core worker runs agent before now went in
    let all : leases_taken (core_start runs) (events_of went.events) + (core_after (core_start runs) (events_of went.events)).left ≡ runs =
    taken-and-left runs (events_of went.events) some in
    let same : agent.core.left ≡ (core_after (core_start runs) (events_of went.events)).left = ap (λ (c : Core). c.left) core in
    let noted : reports_noted (core_start runs) (events_of went.events) ≡ leases_taken (core_start runs) (events_of went.events) =
    noted-all runs (events_of went.events) Idle (sym (ap (λ (c : Core). c.last) core) ∙ done) (λ status e. cc) in
    (omega (arith, all, same, l), omega (arith, all, same, noted, r))
done-counts worker runs agent before now some went false done leased reported l r =
    let core : agent.core ≡ core_after (core_start runs) (events_of went.events) = went-core worker runs agent before now went in
    let all : leases_taken (core_start runs) (events_of went.events) + (core_after (core_start runs) (events_of went.events)).left ≡ runs =
    taken-and-left runs (events_of went.events) some in
    let same : agent.core.left ≡ (core_after (core_start runs) (events_of went.events)).left = ap (λ (c : Core). c.left) core in
    let noted : reports_noted (core_start runs) (events_of went.events) ≡ leases_taken (core_start runs) (events_of went.events) =
    noted-all runs (events_of went.events) Limit (sym (ap (λ (c : Core). c.last) core) ∙ done) (λ status e. cc) in
    (omega (arith, all, same, l), omega (arith, all, same, noted, r))

ends-ok : (worker : List ℕ) (runs : ℕ) (agent : AgentState) (before now : Told) → 1 ≤ runs →
    (went : Went worker runs agent before now) → (result : Result Worked WorkFault) → Finishes agent runs result →
    Ends worker runs went.events agent nothing result
ends-ok worker runs agent before now some went (Ok worked) finishes =
    let counts = done-counts worker runs agent before now some went worked.idle finishes.0 worked.leased worked.reported finishes.1
    finishes.2 in
    (finishes.0, counts.0, counts.1)
ends-ok worker runs agent before now some went (Err fault) finishes = inr (refl, finishes)

pub works-end : (worker : List ℕ) (runs : ℕ) (agent : AgentState) (before now : Told) → 1 ≤ runs →
    Went worker runs agent before now → (result : Result Worked WorkFault) → Finishes agent runs result →
    Works worker runs before now result
works-end worker runs agent before now some went result finishes = record {
  steps = went.steps;
  events = went.events;
  agent = agent;
  last = nothing;
  are = went.are;
  tells = went.tells;
  ends = ends-ok worker runs agent before now some went result finishes;
}
