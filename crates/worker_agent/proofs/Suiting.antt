-- What comes of a step suits the action that it was done for.
use Rattle.std.proofs.Common.{◌≡◌, ◌<◌, ◌==◌, ℕ, Bool, true, false, if◌then◌else◌, List, Option, Some, None, Result, Ok, Err, sym, subst}
use Rattle.farm_types.specs.declared.key.Key.{Key}
use Rattle.http_exchange.specs.Sending.{sent_of}
use Rattle.http_exchange.specs.Statuses.{status_number}
use Rattle.http_exchange.specs.declared.sending.Sent.{Sent}
use Rattle.http_exchange.specs.declared.sending.Sent.TheVariants as came
use Rattle.http_words.specs.declared.status_code.StatusCode.TheVariants as status
use Rattle.worker_core.specs.declared.tested.Tested.{Tested}
use Rattle.worker_core.specs.Core.{IsCore}
use Rattle.worker_core.specs.declared.action.Action.{Action}
use Rattle.worker_core.specs.declared.action.Action.TheVariants.{Draw, AskLease, RunTest, SendReport, Stop}
use Rattle.worker_core.specs.declared.event.Event.{Event}
use Rattle.worker_core.specs.declared.event.Event.TheVariants.{Drew, Leased, Nothing, Ran, Noted, Lost}
use Rattle.worker_core.specs.declared.runner.Ran as runner
use Rattle.worker_core.specs.declared.runner.Ran.TheVariants as answer
use Rattle.worker_agent.specs.Answers.{tells_closed}
use Rattle.worker_agent.specs.declared.answer.LeaseAnswer.{LeaseAnswer}
use Rattle.worker_agent.proofs.Measure.{Suits, less, work_left}
use Rattle.worker_agent.specs.Agent.{IsOther}
use Rattle.worker_agent.specs.Replies.{lease_event, lease_reply, leased_event, lost_status, noted_by, report_event, run_event}
use Rattle.worker_agent.specs.Steps.{AgentState, Does, IsStep, Step, drew, event_of, ran, sent}
use Rattle.worker_agent.specs.declared.worked.WorkFault.{WorkFault}
use Rattle.worker_agent.specs.declared.worked.WorkFault.TheVariants.{Peer}

-- an answer that is Ok
abbrev pub ok_of : Event → Result Event WorkFault
ok_of event = Ok event

given : (last : Option Action) (event other : Event) → Suits last event → ok_of event ≡ ok_of other → Suits last other
given last event other suits same = let is : event ≡ other = cc in subst (λ (e : Event). Suits last e) is suits

leased-suits : (key : Key) (reply : Result (Option LeaseAnswer) WorkFault) (event : Event) → leased_event reply ≡ Ok event →
    Suits (Some (AskLease key)) event
leased-suits key (Ok (Some lease)) event e = given (Some (AskLease key)) (Leased lease.run) event tt e
leased-suits key (Ok None) event e = given (Some (AskLease key)) Nothing event tt e
leased-suits key (Err fault) event e = absurd (cc e)

lease-suits : (key : Key) (s : Sent) (event : Event) → lease_event s ≡ Ok event → Suits (Some (AskLease key)) event
lease-suits key (came.Answered r) event e = leased-suits key (lease_reply r) event e
lease-suits key (came.Lost lost) event e = given (Some (AskLease key)) (Lost (lost_status lost)) event tt e

-- an event that a report comes to
pub record IsOfReport (run : ℕ) (tested : Tested) (event : Event) : Type 0 where
  pub suits : Suits (Some (SendReport run tested)) event
  pub other : IsOther event

reported : (run : ℕ) (tested : Tested) (event other : Event) → IsOfReport run tested event → ok_of event ≡ ok_of other →
    IsOfReport run tested other
reported run tested event other of same =
    let is : event ≡ other = cc in subst (λ (e : Event). IsOfReport run tested e) is of

closed-is : (run : ℕ) (tested : Tested) (closed : Bool) (status : ℕ) (event : Event) →
    noted_by status closed ≡ Ok event → IsOfReport run tested event
closed-is run tested true status event e = reported run tested Noted event (record { suits = tt; other = tt }) e
closed-is run tested false status event e = absurd (cc e)

noted-is : (run : ℕ) (tested : Tested) (ok conflict closed : Bool) (status : ℕ) (event : Event) →
    (if ok then ok_of Noted else if conflict then noted_by status closed else Err (Peer status)) ≡ Ok event →
    IsOfReport run tested event
noted-is run tested true conflict closed status event e =
    reported run tested Noted event (record { suits = tt; other = tt }) e
noted-is run tested false true closed status event e = closed-is run tested closed status event e
noted-is run tested false false closed status event e = absurd (cc e)

pub report-is : (run : ℕ) (tested : Tested) (s : Sent) (event : Event) → report_event s ≡ Ok event →
    IsOfReport run tested event
report-is run tested (came.Answered r) event e =
    noted-is run tested (r.status == status_number status.Ok) (r.status == status_number status.Conflict)
    (tells_closed r.body) r.status event e
report-is run tested (came.Lost lost) event e =
    reported run tested (Lost (lost_status lost)) event (record { suits = tt; other = tt }) e

run-suits : (run : ℕ) (said : runner.Ran) (event : Event) → run_event said ≡ Ok event → Suits (Some (RunTest run)) event
run-suits run (answer.Tested tested) event e = given (Some (RunTest run)) (Ran tested) event tt e
run-suits run answer.Failed event e = absurd (cc e)

suits-of : (worker : List ℕ) (last : Option Action) (lease : Option LeaseAnswer) (step : Step) (event : Event) →
    Does worker last lease step → event_of last step ≡ Ok event → Suits last event
suits-of worker None lease step event does e = absurd does
suits-of worker (Some Draw) lease (drew key) event does e = given (Some Draw) (Drew key) event tt e
suits-of worker (Some Draw) lease (sent t) event does e = absurd does
suits-of worker (Some Draw) lease (ran asked) event does e = absurd does
suits-of worker (Some (AskLease key)) lease (drew k) event does e = absurd does
suits-of worker (Some (AskLease key)) lease (sent t) event does e = lease-suits key (sent_of t.answer) event e
suits-of worker (Some (AskLease key)) lease (ran asked) event does e = absurd does
suits-of worker (Some (RunTest run)) None step event does e = absurd does
suits-of worker (Some (RunTest run)) (Some lease) (drew key) event does e = absurd does
suits-of worker (Some (RunTest run)) (Some lease) (sent t) event does e = absurd does
suits-of worker (Some (RunTest run)) (Some lease) (ran asked) event does e = run-suits run asked.answer event e
suits-of worker (Some (SendReport run tested)) lease (drew key) event does e = absurd does
suits-of worker (Some (SendReport run tested)) lease (sent t) event does e =
    (report-is run tested (sent_of t.answer) event e).suits
suits-of worker (Some (SendReport run tested)) lease (ran asked) event does e = absurd does
suits-of worker (Some (Stop end)) lease step event does e = absurd does

-- a step makes what is left to do less
pub less-left : (worker : List ℕ) (agent : AgentState) (step : Step) (event : Event) (next : AgentState) →
    IsCore agent.core.left agent.core.lost agent.core.last → IsStep worker agent step event next →
    work_left next.core.left next.core.lost next.core.last < work_left agent.core.left agent.core.lost agent.core.last
less-left worker agent step event next core is =
    subst
    (λ (s : AgentState). work_left s.core.left s.core.lost s.core.last < work_left agent.core.left agent.core.lost agent.core.last)
    (sym is.after_is)
    (less agent.core.left agent.core.lost agent.core.last event core
    (suits-of worker agent.core.last agent.lease step event is.does is.comes))
