-- What is kept of a worker stays so in a step.
use Rattle.std.proofs.Common.{◌≡◌, ap, ◌+◌, ◌==◌, ℕ, Bool, true, false, nat_lt, if◌then◌else◌, Option, Some, None, refl, sym, subst}
use Rattle.worker_core.specs.Core.{Core}
use Rattle.worker_core.specs.Steps.{act, again, core_step, step_from}
use Rattle.worker_core.specs.declared.action.Action.{Action}
use Rattle.worker_core.specs.declared.action.Action.TheVariants.{Draw, AskLease, RunTest, SendReport, Stop}
use Rattle.worker_core.specs.declared.action.End.TheVariants.{Limit, Peer}
use Rattle.worker_core.specs.declared.event.Event.{Event}
use Rattle.worker_core.specs.declared.event.Event.TheVariants.{Drew, Leased, Nothing, Ran, Noted, Lost}
use Rattle.worker_core.specs.declared.worker.TheConstants.{MAX_TRIES}
use Rattle.worker_agent.specs.declared.answer.LeaseAnswer.{LeaseAnswer}
use Rattle.worker_agent.specs.Agent.{AsksLease, Holds, IsAgent, IsOther}
use Rattle.worker_agent.specs.Steps.{AgentState}

-- the action that a step gives is the core's last

lost-last : (left lost : ℕ) (request other : Action) (b : Bool) →
    (if b then again left lost request else act left other).core.last ≡ Some (if b then again left lost request else act left other).action
lost-last left lost request other true = refl
lost-last left lost request other false = refl

pub step-last : (left lost : ℕ) (last : Option Action) (event : Event) →
    (step_from left lost last event).core.last ≡ Some (step_from left lost last event).action
step-last left lost None event = refl
step-last left lost (Some Draw) (Drew key) = refl
step-last left lost (Some Draw) event = refl
step-last left lost (Some (AskLease key)) (Leased run) = refl
step-last left lost (Some (AskLease key)) Nothing = refl
step-last left lost (Some (AskLease key)) (Lost status) =
    lost-last left (lost + 1) (AskLease key) (Stop (Peer status)) (nat_lt (lost + 1) MAX_TRIES)
step-last left lost (Some (AskLease key)) event = refl
step-last left lost (Some (RunTest run)) (Ran tested) = refl
step-last left lost (Some (RunTest run)) event = refl
step-last left lost (Some (SendReport run tested)) Noted = refl
step-last left lost (Some (SendReport run tested)) (Lost status) =
    lost-last left (lost + 1) (SendReport run tested) (Stop (Peer status)) (nat_lt (lost + 1) MAX_TRIES)
step-last left lost (Some (SendReport run tested)) event = refl
step-last left lost (Some (Stop end)) event = refl

-- the lease of a run whose test is to be run is held

lost-holds : (left lost : ℕ) (request other : Action) (held : Option LeaseAnswer) (b : Bool) → Holds (Some request) held →
    Holds (Some other) held → Holds (if b then again left lost request else act left other).core.last held
lost-holds left lost request other held true holds gives = holds
lost-holds left lost request other held false holds gives = gives

noted-holds : (left : ℕ) (held : Option LeaseAnswer) (b : Bool) → Holds (act left (if b then Stop Limit else Draw)).core.last held
noted-holds left held true = tt
noted-holds left held false = tt

pub holds-on : (left lost : ℕ) (last : Option Action) (event : Event) (held : Option LeaseAnswer) → IsOther event → Holds last held →
    Holds (step_from left lost last event).core.last held
holds-on left lost None event held other holds = tt
holds-on left lost (Some Draw) (Drew key) held other holds = tt
holds-on left lost (Some Draw) event held other holds = tt
holds-on left lost (Some (AskLease key)) (Leased run) held other holds = absurd other
holds-on left lost (Some (AskLease key)) Nothing held other holds = tt
holds-on left lost (Some (AskLease key)) (Lost status) held other holds =
    lost-holds left (lost + 1) (AskLease key) (Stop (Peer status)) held (nat_lt (lost + 1) MAX_TRIES) tt tt
holds-on left lost (Some (AskLease key)) event held other holds = tt
holds-on left lost (Some (RunTest run)) (Ran tested) held other holds = tt
holds-on left lost (Some (RunTest run)) event held other holds = holds
holds-on left lost (Some (SendReport run tested)) Noted held other holds = noted-holds left held (left == 0)
holds-on left lost (Some (SendReport run tested)) (Lost status) held other holds =
    lost-holds left (lost + 1) (SendReport run tested) (Stop (Peer status)) held (nat_lt (lost + 1) MAX_TRIES) tt tt
holds-on left lost (Some (SendReport run tested)) event held other holds = tt
holds-on left lost (Some (Stop end)) event held other holds = tt

-- the lease of the run that was asked for
holds-lease : (left lost : ℕ) (last : Option Action) (lease : LeaseAnswer) → AsksLease last →
    Holds (step_from left lost last (Leased lease.run)).core.last (Some lease)
holds-lease left lost (Some (AskLease key)) lease asks = refl
holds-lease left lost last lease asks = absurd asks

stepped : (core next : Core) (event : Event) (action : Action) (held : Option LeaseAnswer) →
    Holds (core_step core event).core.last held → action ≡ (core_step core event).action → next ≡ (core_step core event).core →
    IsAgent next.last action held
stepped core next event action held holds acted next_is =
    subst (λ (k : Core). IsAgent k.last action held) (sym next_is)
    (record {
      action_is = subst (λ (a : Action). (core_step core event).core.last ≡ Some a) (sym acted)
          (step-last core.left core.lost core.last event);
      holds = holds;
    })

-- the worker once its core is told
pub agent-noted : (core next : Core) (event : Event) (action : Action) (held : Option LeaseAnswer) → IsOther event →
    Holds core.last held → action ≡ (core_step core event).action → next ≡ (core_step core event).core →
    IsAgent next.last action held
agent-noted core next event action held other holds acted next_is =
    stepped core next event action held (holds-on core.left core.lost core.last event held other holds) acted next_is

-- the worker once a lease is kept
pub agent-leased : (old : AgentState) (core next : Core) (lease : LeaseAnswer) (held : Option LeaseAnswer) (faulted : Bool)
    (action : Action) → record { core = core; lease = held; faulted = faulted } ≡ old → AsksLease old.core.last →
    action ≡ (core_step core (Leased lease.run)).action → next ≡ (core_step core (Leased lease.run)).core →
    IsAgent next.last action (Some lease)
agent-leased old core next lease held faulted action view asks acted next_is =
    let core_is : core ≡ old.core = ap (λ (s : AgentState). s.core) view in
    let asked : AsksLease core.last = subst (λ (k : Core). AsksLease k.last) (sym core_is) asks in
    stepped core next (Leased lease.run) action (Some lease) (holds-lease core.left core.lost core.last lease asked) acted next_is
