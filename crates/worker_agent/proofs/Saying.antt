-- From the sending of a request to what a step says.
use Rattle.std.proofs.Common.{◌≡◌, ◌≢◌, ℕ, Bool, List, Option, Some, None, Result, Ok, Err, refl, sym, ap, subst, ◌∙◌}
use Rattle.std.specs.Prelude.{◌==◌, true, false, if◌then◌else◌, IsErrOf}
use Rattle.common_types.specs.declared.memory.Memory as want
use Rattle.farm_types.specs.declared.key.Key.{Key}
use Rattle.http_exchange.proofs.Sendings.{put-tried}
use Rattle.http_exchange.specs.Exchanges.{Exchange, IsPut, exchange_events, tell_all}
use Rattle.http_exchange.specs.Sending.{IsTry, SendsOnce, Try, sent_of}
use Rattle.http_exchange.specs.Statuses.{status_number}
use Rattle.http_exchange.specs.declared.response.Response.{Response}
use Rattle.http_exchange.specs.declared.sending.Lost as sending
use Rattle.http_exchange.specs.declared.sending.Lost.TheVariants as lost
use Rattle.http_exchange.specs.declared.sending.Sent.{Sent}
use Rattle.http_exchange.specs.declared.sending.Sent.TheVariants as came
use Rattle.http_words.specs.declared.status_code.StatusCode.TheVariants as status
use Rattle.link_io.specs.Telling.{add_told}
use Rattle.link_io.specs.Events.{NetworkEvent}
use Rattle.worker_core.specs.declared.tested.Tested.{Tested}
use Rattle.worker_core.specs.declared.action.Action.{Action}
use Rattle.worker_core.specs.declared.action.Action.TheVariants.{Draw, AskLease, RunTest, SendReport, Stop}
use Rattle.worker_core.specs.declared.event.Event.{Event}
use Rattle.worker_core.specs.declared.event.Event.TheVariants as event
use Rattle.worker_core.specs.Runs.{Asked, asked}
use Rattle.worker_core.specs.declared.runner.Ran as runner
use Rattle.worker_core.specs.declared.runner.Ran.TheVariants as ran_is
use Rattle.worker_agent.specs.Answers.{lease_reading, tells_closed, tells_no_run}
use Rattle.worker_agent.specs.Requests.{lease_request, report_request}
use Rattle.worker_agent.specs.declared.answer.AnswerFault.{AnswerFault}
use Rattle.worker_agent.specs.declared.answer.LeaseAnswer.{LeaseAnswer}
use Rattle.worker_agent.specs.Agent.{AsksRunner, Holds, IsAgent, IsTest, StepSays}
use Rattle.worker_agent.specs.Replies.{is_network, lease_by, lease_event, lease_held, lease_reply, lease_with, leased_event, lost_status, noted_by, refused_by, report_event, run_event}
use Rattle.worker_agent.specs.Steps.{AgentState, Does, Step, agent_after, drew, event_of, lease_after, ran, sent}
use Rattle.worker_agent.specs.Told.{Told}
use Rattle.worker_agent.specs.Work.{IsEndedBy, Last, Tries, cut_off, ended_by, nothing}
use Rattle.worker_agent.specs.declared.worked.WorkFault.{WorkFault}
use Rattle.worker_agent.specs.declared.worked.WorkFault.TheVariants.{Memory, NetFault, Peer, RunnerFault}

abbrev pub told_of : Option (List NetworkEvent) → Option (List Asked) → Option (List Key) → Told
told_of network runner keys = record { network = network; runner = runner; keys = keys }

-- the request of an action, what comes of it, and which lease is held then
pub record IsAsked (worker : List ℕ) (last : Option Action) (request : List ℕ) (reads : Sent → Result Event WorkFault)
    (keeps : Sent → Option LeaseAnswer → Option LeaseAnswer) : Type 0 where
  pub does : (lease : Option LeaseAnswer) (t : Try) → IsTry request t → Does worker last lease (sent t)
  pub comes : (t : Try) → event_of last (sent t) ≡ reads (sent_of t.answer)
  pub holds : (t : Try) (held : Option LeaseAnswer) → lease_after last (sent t) held ≡ keeps (sent_of t.answer) held
  pub tries : (x : Exchange) → IsPut request x → Tries worker last x

abbrev pub as_held : Sent → Option LeaseAnswer → Option LeaseAnswer
as_held s held = held

pub asks-lease : (worker : List ℕ) (last : Option Action) (key : Key) → last ≡ Some (AskLease key) →
    IsAsked worker last (lease_request key worker) lease_event lease_held
asks-lease worker last key is =
    subst (λ (l : Option Action). IsAsked worker l (lease_request key worker) lease_event lease_held) (sym is)
    (record { does = λ lease t by. by; comes = λ t. refl; holds = λ t held. refl; tries = λ x put. put })

pub asks-report : (worker : List ℕ) (last : Option Action) (run : ℕ) (tested : Tested) →
    last ≡ Some (SendReport run tested) →
    IsAsked worker last (report_request run tested) report_event as_held
asks-report worker last run tested is =
    subst (λ (l : Option Action). IsAsked worker l (report_request run tested) report_event as_held) (sym is)
    (record { does = λ lease t by. by; comes = λ t. refl; holds = λ t held. refl; tries = λ x put. put })

-- memory ran out for a request
pub asked-none : (A : Type 0) (worker : List ℕ) (agent now : AgentState) (told : Told) →
    StepSays {A = A} worker agent now told told (Err Memory)
asked-none A worker agent now told = (nothing, tt, refl)

-- memory ran out for its answer
pub asked-short : (A : Type 0) (worker : List ℕ) (agent now : AgentState) (request : List ℕ) (reads : Sent → Result Event WorkFault)
    (keeps : Sent → Option LeaseAnswer → Option LeaseAnswer) (before after : Option (List NetworkEvent)) (r : Option (List Asked))
    (k : Option (List Key)) (memory : want.Memory) → IsAsked worker agent.core.last request reads keeps →
    SendsOnce request before after (Err memory) →
    StepSays {A = A} worker agent now (told_of before r k) (told_of after r k) (Err Memory)
asked-short A worker agent now request reads keeps before after r k memory asked once =
    (cut_off once.0, asked.tries once.0 once.2, ap (λ (n : Option (List NetworkEvent)). told_of n r k) once.1)

-- its answer ends the work
pub asked-err : (A : Type 0) (worker : List ℕ) (agent now : AgentState) (request : List ℕ) (reads : Sent → Result Event WorkFault)
    (keeps : Sent → Option LeaseAnswer → Option LeaseAnswer) (before after : Option (List NetworkEvent)) (r : Option (List Asked))
    (k : Option (List Key)) (s : Sent) (fault : WorkFault) → IsAsked worker agent.core.last request reads keeps →
    SendsOnce request before after (Ok s) → (fault ≢ Memory → reads s ≡ Err fault) →
    StepSays {A = A} worker agent now (told_of before r k) (told_of after r k) (Err fault)
asked-err A worker agent now request reads keeps before after r k s fault asked once is = by fault is
  where
    ends : (f : WorkFault) → reads s ≡ Err f → Does worker agent.core.last agent.lease (sent once.0)
        × (event_of agent.core.last (sent once.0) ≡ Err f)
    ends f e = (asked.does agent.lease once.0 once.2, asked.comes once.0 ∙ ap reads (sym once.3) ∙ e)

    tells : told_of after r k ≡ told_of (tell_all (exchange_events once.0.exchange) before) r k
    tells = ap (λ (n : Option (List NetworkEvent)). told_of n r k) once.1

    by : (f : WorkFault) → (f ≢ Memory → reads s ≡ Err f) →
        StepSays {A = A} worker agent now (told_of before r k) (told_of after r k) (Err f)
    by Memory e = (cut_off once.0.exchange, asked.tries once.0.exchange (put-tried request once.0.exchange once.0.answer once.2), tells)
    by NetFault e = (ended_by (sent once.0), ends NetFault (e (λ x. cc)), tells)
    by RunnerFault e = (ended_by (sent once.0), ends RunnerFault (e (λ x. cc)), tells)
    by (Peer status) e = (ended_by (sent once.0), ends (Peer status) (e (λ x. cc)), tells)

-- the work goes on
pub asked-ok : {A : Type 0} (worker : List ℕ) (agent now : AgentState) (request : List ℕ) (reads : Sent → Result Event WorkFault)
    (keeps : Sent → Option LeaseAnswer → Option LeaseAnswer) (before after : Option (List NetworkEvent)) (r : Option (List Asked))
    (k : Option (List Key)) (done : A) (s : Sent) (e : Event) → IsAsked worker agent.core.last request reads keeps →
    SendsOnce request before after (Ok s) → reads s ≡ Ok e → now ≡ agent_after agent (keeps s agent.lease) e (is_network s) →
    StepSays {A = A} worker agent now (told_of before r k) (told_of after r k) (Ok done)
asked-ok worker agent now request reads keeps before after r k done s e asked once comes is = (
  sent once.0,
  e,
  record {
    does = asked.does agent.lease once.0 once.2;
    comes = asked.comes once.0 ∙ ap reads (sym once.3) ∙ comes;
    after_is = is ∙ ap (λ (x : Sent). agent_after agent (keeps x agent.lease) e (is_network x)) once.3
        ∙ ap (λ (l : Option LeaseAnswer). agent_after agent l e (is_network (sent_of once.0.answer)))
        (sym (asked.holds once.0 agent.lease));
  },
  ap (λ (n : Option (List NetworkEvent)). told_of n r k) once.1,
)

-- what a step says that asked for a run, by what the request came to

pub reply-ends : (A : Type 0) (worker : List ℕ) (agent now : AgentState) (request : List ℕ) (before after : Option (List NetworkEvent))
    (r : Option (List Asked)) (k : Option (List Key)) (s : Sent) (response : Response) (fault : WorkFault) →
    IsAsked worker agent.core.last request lease_event lease_held → SendsOnce request before after (Ok s) →
    s ≡ came.Answered response → (fault ≢ Memory → lease_reply response ≡ Err fault) →
    StepSays {A = A} worker agent now (told_of before r k) (told_of after r k) (Err fault)
reply-ends A worker agent now request before after r k s response fault asked once is ends =
    asked-err A worker agent now request lease_event lease_held before after r k s fault asked once
    (λ n. ap lease_event is ∙ ap leased_event (ends n))

pub some-says : {A : Type 0} (worker : List ℕ) (agent now : AgentState) (request : List ℕ) (before after : Option (List NetworkEvent))
    (r : Option (List Asked)) (k : Option (List Key)) (done : A) (s : Sent) (response : Response) (lease : LeaseAnswer) →
    IsAsked worker agent.core.last request lease_event lease_held → SendsOnce request before after (Ok s) →
    s ≡ came.Answered response → lease_reply response ≡ Ok (Some lease) →
    now ≡ agent_after agent (Some lease) (event.Leased lease.run) false →
    StepSays {A = A} worker agent now (told_of before r k) (told_of after r k) (Ok done)
some-says worker agent now request before after r k done s response lease asked once is says now_is =
    asked-ok worker agent now request lease_event lease_held before after r k done s (event.Leased lease.run) asked once
    (ap lease_event is ∙ ap leased_event says)
    (now_is
    ∙ sym (ap (λ (x : Result (Option LeaseAnswer) WorkFault).
    agent_after agent (lease_with x agent.lease) (event.Leased lease.run) false) says)
    ∙ sym (ap (λ (x : Sent). agent_after agent (lease_held x agent.lease) (event.Leased lease.run) (is_network x)) is))

pub none-says : {A : Type 0} (worker : List ℕ) (agent now : AgentState) (request : List ℕ) (before after : Option (List NetworkEvent))
    (r : Option (List Asked)) (k : Option (List Key)) (done : A) (s : Sent) (response : Response) →
    IsAsked worker agent.core.last request lease_event lease_held → SendsOnce request before after (Ok s) →
    s ≡ came.Answered response → lease_reply response ≡ Ok None → now ≡ agent_after agent agent.lease event.Nothing false →
    StepSays {A = A} worker agent now (told_of before r k) (told_of after r k) (Ok done)
none-says worker agent now request before after r k done s response asked once is says now_is =
    asked-ok worker agent now request lease_event lease_held before after r k done s event.Nothing asked once
    (ap lease_event is ∙ ap leased_event says)
    (now_is
    ∙ sym (ap (λ (x : Result (Option LeaseAnswer) WorkFault).
    agent_after agent (lease_with x agent.lease) event.Nothing false) says)
    ∙ sym (ap (λ (x : Sent). agent_after agent (lease_held x agent.lease) event.Nothing (is_network x)) is))

pub lost-says : {A : Type 0} (worker : List ℕ) (agent now : AgentState) (request : List ℕ) (before after : Option (List NetworkEvent))
    (r : Option (List Asked)) (k : Option (List Key)) (done : A) (s : Sent) (by : sending.Lost) →
    IsAsked worker agent.core.last request lease_event lease_held → SendsOnce request before after (Ok s) →
    s ≡ came.Lost by → now ≡ agent_after agent agent.lease (event.Lost (lost_status by)) (is_network s) →
    StepSays {A = A} worker agent now (told_of before r k) (told_of after r k) (Ok done)
lost-says worker agent now request before after r k done s by asked once is now_is =
    asked-ok worker agent now request lease_event lease_held before after r k done s (event.Lost (lost_status by)) asked once
    (ap lease_event is)
    (now_is
    ∙ sym (ap (λ (x : Sent). agent_after agent (lease_held x agent.lease) (event.Lost (lost_status by)) (is_network s)) is))

-- a request that was lost by the network
pub network-is : (s : Sent) → is_network s ≡ true → s ≡ came.Lost lost.Network
network-is (came.Answered response) is = cc
network-is (came.Lost lost.Network) is = refl
network-is (came.Lost (lost.Peer status)) is = cc

-- the answer to a request ends the work by its status alone

abbrev pub IsOrPeer : {A : Type 0} → Result A WorkFault → Type 0
IsOrPeer (Ok event) = Unit {0}
IsOrPeer (Err (Peer status)) = Unit {0}
IsOrPeer (Err fault) = ⊥

read-peer : (status : ℕ) (reading : Result LeaseAnswer AnswerFault) → IsOrPeer (lease_by status reading)
read-peer status (Ok lease) = tt
read-peer status (Err fault) = tt

refused-peer : (status : ℕ) (no_run : Bool) → IsOrPeer (refused_by status no_run)
refused-peer status true = tt
refused-peer status false = tt

if-peer : {A : Type 0} (b : Bool) (x y : Result A WorkFault) → IsOrPeer {A = A} x → IsOrPeer {A = A} y →
    IsOrPeer {A = A} (if b then x else y)
if-peer true x y p q = p
if-peer false x y p q = q

reply-peer : (r : Response) → IsOrPeer (lease_reply r)
reply-peer r =
    if-peer (r.status == status_number status.Ok) (lease_by r.status (lease_reading r.body)) _
    (read-peer r.status (lease_reading r.body))
    (if-peer (r.status == status_number status.Conflict) (refused_by r.status (tells_no_run r.body)) (Err (Peer r.status))
    (refused-peer r.status (tells_no_run r.body)) tt)

leased-peer : (reply : Result (Option LeaseAnswer) WorkFault) → IsOrPeer reply → IsOrPeer (leased_event reply)
leased-peer (Ok (Some lease)) is = tt
leased-peer (Ok None) is = tt
leased-peer (Err (Peer status)) is = tt
leased-peer (Err Memory) is = absurd is
leased-peer (Err NetFault) is = absurd is
leased-peer (Err RunnerFault) is = absurd is

lease-peer : (s : Sent) → IsOrPeer (lease_event s)
lease-peer (came.Answered r) = leased-peer (lease_reply r) (reply-peer r)
lease-peer (came.Lost by) = tt

noted-peer : (status : ℕ) (closed : Bool) → IsOrPeer (noted_by status closed)
noted-peer status true = tt
noted-peer status false = tt

report-peer : (s : Sent) → IsOrPeer (report_event s)
report-peer (came.Answered r) =
    if-peer (r.status == status_number status.Ok) (Ok event.Noted) _ tt
    (if-peer (r.status == status_number status.Conflict) (noted_by r.status (tells_closed r.body)) (Err (Peer r.status))
    (noted-peer r.status (tells_closed r.body)) tt)
report-peer (came.Lost by) = tt

-- no step is ended by a fault of the network: the request is lost then

run-not-net : (answer : runner.Ran) → run_event answer ≡ Err NetFault → ⊥
run-not-net (ran_is.Tested tested) e = cc
run-not-net ran_is.Failed e = cc

comes-not-net : (last : Option Action) (step : Step) → event_of last step ≡ Err NetFault → ⊥
comes-not-net None (drew key) e = cc
comes-not-net None (sent t) e = cc
comes-not-net None (ran asked) e = cc
comes-not-net (Some Draw) (drew key) e = cc
comes-not-net (Some Draw) (sent t) e = cc
comes-not-net (Some Draw) (ran asked) e = cc
comes-not-net (Some (AskLease key)) (drew k) e = cc
comes-not-net (Some (AskLease key)) (sent t) e =
    subst (λ (r : Result Event WorkFault). IsOrPeer r) e (lease-peer (sent_of t.answer))
comes-not-net (Some (AskLease key)) (ran asked) e = cc
comes-not-net (Some (RunTest run)) (drew key) e = cc
comes-not-net (Some (RunTest run)) (sent t) e = cc
comes-not-net (Some (RunTest run)) (ran asked) e = run-not-net asked.answer e
comes-not-net (Some (SendReport run tested)) (drew key) e = cc
comes-not-net (Some (SendReport run tested)) (sent t) e =
    subst (λ (r : Result Event WorkFault). IsOrPeer r) e (report-peer (sent_of t.answer))
comes-not-net (Some (SendReport run tested)) (ran asked) e = cc
comes-not-net (Some (Stop end)) (drew key) e = cc
comes-not-net (Some (Stop end)) (sent t) e = cc
comes-not-net (Some (Stop end)) (ran asked) e = cc

ended-not-net : (worker : List ℕ) (agent : AgentState) (last : Last) → IsEndedBy worker agent last NetFault → ⊥
ended-not-net worker agent nothing ends = ends
ended-not-net worker agent (cut_off x) ends = ends
ended-not-net worker agent (ended_by step) ends = comes-not-net agent.core.last step ends.1

pub says-not-net : {A : Type 0} (worker : List ℕ) (agent now : AgentState) (before after : Told) (result : Result A WorkFault) →
    StepSays {A = A} worker agent now before after result → IsErrOf result NetFault → ⊥
says-not-net {A = A} worker agent now before after result says is =
    let s : StepSays {A = A} worker agent now before after (Err NetFault) =
    subst (λ (r : Result A WorkFault). StepSays {A = A} worker agent now before after r) is says in
    ended-not-net worker agent s.0 s.1

-- a key

drew-comes : (last : Option Action) (key : Key) → event_of last (drew key) ≡ Ok (event.Drew key)
drew-comes None key = refl
drew-comes (Some Draw) key = refl
drew-comes (Some (AskLease k)) key = refl
drew-comes (Some (RunTest run)) key = refl
drew-comes (Some (SendReport run tested)) key = refl
drew-comes (Some (Stop end)) key = refl

drew-keeps : (last : Option Action) (key : Key) (held : Option LeaseAnswer) → lease_after last (drew key) held ≡ held
drew-keeps None key held = refl
drew-keeps (Some Draw) key held = refl
drew-keeps (Some (AskLease k)) key held = refl
drew-keeps (Some (RunTest run)) key held = refl
drew-keeps (Some (SendReport run tested)) key held = refl
drew-keeps (Some (Stop end)) key held = refl

pub drew-ok : {A : Type 0} (worker : List ℕ) (agent now : AgentState) (before after : Option (List Key)) (n : Option (List NetworkEvent))
    (r : Option (List Asked)) (done : A) (key : Key) → agent.core.last ≡ Some Draw → after ≡ add_told key before →
    now ≡ agent_after agent agent.lease (event.Drew key) false →
    StepSays {A = A} worker agent now (told_of n r before) (told_of n r after) (Ok done)
drew-ok worker agent now before after n r done key is told now_is = (
  drew key,
  event.Drew key,
  record {
    does = subst (λ (l : Option Action). Does worker l agent.lease (drew key)) (sym is) tt;
    comes = drew-comes agent.core.last key;
    after_is = now_is ∙ ap (λ (l : Option LeaseAnswer). agent_after agent l (event.Drew key) false)
        (sym (drew-keeps agent.core.last key agent.lease));
  },
  ap (λ (k : Option (List Key)). told_of n r k) told,
)

-- the runner

test-comes : (last : Option Action) (a : Asked) → IsTest last → event_of last (ran a) ≡ run_event a.answer
test-comes (Some (RunTest run)) asked test = refl
test-comes last asked test = absurd test

test-keeps : (last : Option Action) (a : Asked) (held : Option LeaseAnswer) → IsTest last → lease_after last (ran a) held ≡ held
test-keeps (Some (RunTest run)) asked held test = refl
test-keeps last asked held test = absurd test

ran-comes : (last : Option Action) (a : Asked) (answer : runner.Ran) → IsTest last → a.answer ≡ answer →
    event_of last (ran a) ≡ run_event answer
ran-comes last a answer test same = test-comes last a test ∙ ap run_event same

pub ran-ok : {A : Type 0} (worker : List ℕ) (agent now : AgentState) (before after : Option (List Asked)) (n : Option (List NetworkEvent))
    (k : Option (List Key)) (done : A) (tested : Tested) → IsTest agent.core.last →
    AsksRunner agent.core.last agent.lease before after (ran_is.Tested tested) →
    now ≡ agent_after agent agent.lease (event.Ran tested) false →
    StepSays {A = A} worker agent now (told_of n before k) (told_of n after k) (Ok done)
ran-ok worker agent now before after n k done tested test asks now_is = (
  ran asks.0,
  event.Ran tested,
  record {
    does = asks.3 worker;
    comes = ran-comes agent.core.last asks.0 (ran_is.Tested tested) test asks.2;
    after_is = now_is ∙ ap (λ (l : Option LeaseAnswer). agent_after agent l (event.Ran tested) false)
        (sym (test-keeps agent.core.last asks.0 agent.lease test));
  },
  ap (λ (r : Option (List Asked)). told_of n r k) asks.1,
)

pub ran-err : (A : Type 0) (worker : List ℕ) (agent now : AgentState) (before after : Option (List Asked)) (n : Option (List NetworkEvent))
    (k : Option (List Key)) → IsTest agent.core.last → AsksRunner agent.core.last agent.lease before after ran_is.Failed →
    StepSays {A = A} worker agent now (told_of n before k) (told_of n after k) (Err RunnerFault)
ran-err A worker agent now before after n k test asks = (
  ended_by (ran asks.0),
  (asks.3 worker, ran-comes agent.core.last asks.0 ran_is.Failed test asks.2),
  ap (λ (r : Option (List Asked)). told_of n r k) asks.1,
)

test-does : (worker : List ℕ) (last : Option Action) (held : Option LeaseAnswer) (lease : LeaseAnswer) (answer : runner.Ran) →
    IsTest last → Holds last held → held ≡ Some lease → Does worker last held (ran (asked lease.test lease.commit answer))
test-does worker (Some (RunTest run)) (Some l) lease answer test holds is =
    let same : l ≡ lease = cc in
    (holds, ap (λ (x : LeaseAnswer). x.test) (sym same), ap (λ (x : LeaseAnswer). x.commit) (sym same))
test-does worker (Some (RunTest run)) None lease answer test holds is = absurd holds
test-does worker last held lease answer test holds is = absurd test

pub asks-runner : (agent now : AgentState) (action : Action) (lease : LeaseAnswer) (before after : Option (List Asked))
    (answer : runner.Ran) → agent ≡ now → IsTest now.core.last → IsAgent agent.core.last action agent.lease → agent.lease ≡ Some lease →
    after ≡ add_told (asked lease.test lease.commit answer) before →
    AsksRunner now.core.last now.lease before after answer
asks-runner agent now action lease before after answer same test is held told =
    let does : (worker : List ℕ) → Does worker agent.core.last agent.lease (ran (asked lease.test lease.commit answer)) =
    λ worker. test-does worker agent.core.last agent.lease lease answer
    (subst (λ (s : AgentState). IsTest s.core.last) (sym same) test) is.holds held in (
      asked lease.test lease.commit answer,
      told,
      refl,
      subst
          (λ (s : AgentState). (worker : List ℕ) → Does worker s.core.last s.lease (ran (asked lease.test lease.commit answer)))
          same does,
    )
