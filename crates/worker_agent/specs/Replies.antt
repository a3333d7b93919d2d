-- What comes of a worker's actions: what the answers to its requests mean, and those of its runner.
use Rattle.std.specs.Prelude.{ℕ, Bool, true, false, ◌==◌, Option, Some, None, Result, Ok, Err, if◌then◌else◌}
use Rattle.http_exchange.specs.Statuses.{status_number}
use Rattle.http_exchange.specs.declared.response.Response.{Response}
use Rattle.http_exchange.specs.declared.sending.Lost as sending
use Rattle.http_exchange.specs.declared.sending.Lost.TheVariants.{Network}
use Rattle.http_exchange.specs.declared.sending.Lost.TheVariants as lost
use Rattle.http_exchange.specs.declared.sending.Sent.{Sent}
use Rattle.http_exchange.specs.declared.sending.Sent.TheVariants.{Answered, Lost}
use Rattle.http_words.specs.declared.status_code.StatusCode.TheVariants as status
use Rattle.worker_core.specs.declared.event.Event.{Event}
use Rattle.worker_core.specs.declared.event.Event.TheVariants as event
use Rattle.worker_core.specs.declared.runner.Ran.{Ran}
use Rattle.worker_core.specs.declared.runner.Ran.TheVariants as ran
use Rattle.worker_agent.specs.Answers.{lease_reading, tells_closed, tells_no_run}
use Rattle.worker_agent.specs.declared.answer.AnswerFault.{AnswerFault}
use Rattle.worker_agent.specs.declared.answer.LeaseAnswer.{LeaseAnswer}
use Rattle.worker_agent.specs.declared.worked.WorkFault.{WorkFault}
use Rattle.worker_agent.specs.declared.worked.WorkFault.TheVariants.{Peer, RunnerFault}

-- a lease, or that there is no run to hand out, or neither, of a response of this status
abbrev pub lease_by : (status : ℕ) → Result LeaseAnswer AnswerFault → Result (Option LeaseAnswer) WorkFault
lease_by status (Ok lease) = Ok (Some lease)
lease_by status (Err fault) = Err (Peer status)

abbrev pub refused_by : (status : ℕ) → (no_run : Bool) → Result (Option LeaseAnswer) WorkFault
refused_by status true = Ok None
refused_by status false = Err (Peer status)

-- what a response to a request for a run says
abbrev pub lease_reply : Response → Result (Option LeaseAnswer) WorkFault
lease_reply response =
    if response.status == status_number status.Ok then lease_by response.status (lease_reading response.body)
    else if response.status == status_number status.Conflict then refused_by response.status (tells_no_run response.body)
    else Err (Peer response.status)

-- the status that a request was lost with, or 0 where no whole response came
abbrev pub lost_status : sending.Lost → ℕ
lost_status Network = 0
lost_status (lost.Peer status) = status

-- whether a request was lost by the network
abbrev pub is_network : Sent → Bool
is_network (Answered response) = false
is_network (Lost Network) = true
is_network (Lost (lost.Peer status)) = false

-- what the worker is told of such an answer, and the lease that it holds then
abbrev pub leased_event : Result (Option LeaseAnswer) WorkFault → Result Event WorkFault
leased_event (Ok (Some lease)) = Ok (event.Leased lease.run)
leased_event (Ok None) = Ok event.Nothing
leased_event (Err fault) = Err fault

abbrev pub lease_with : Result (Option LeaseAnswer) WorkFault → (held : Option LeaseAnswer) → Option LeaseAnswer
lease_with (Ok (Some lease)) held = Some lease
lease_with (Ok None) held = held
lease_with (Err fault) held = held

-- what comes of a request for a run, and the lease that is held then
abbrev pub lease_event : Sent → Result Event WorkFault
lease_event (Answered response) = leased_event (lease_reply response)
lease_event (Lost lost) = Ok (event.Lost (lost_status lost))

abbrev pub lease_held : Sent → (held : Option LeaseAnswer) → Option LeaseAnswer
lease_held (Answered response) held = lease_with (lease_reply response) held
lease_held (Lost lost) held = held

-- a report that a closed farm refuses is noted: there is nobody left who needs it
abbrev pub noted_by : (status : ℕ) → (closed : Bool) → Result Event WorkFault
noted_by status true = Ok event.Noted
noted_by status false = Err (Peer status)

-- what comes of a report
abbrev pub report_event : Sent → Result Event WorkFault
report_event (Answered response) =
    if response.status == status_number status.Ok then Ok event.Noted
    else if response.status == status_number status.Conflict then noted_by response.status (tells_closed response.body)
    else Err (Peer response.status)
report_event (Lost lost) = Ok (event.Lost (lost_status lost))

-- what comes of a test
abbrev pub run_event : Ran → Result Event WorkFault
run_event (ran.Tested tested) = Ok (event.Ran tested)
run_event ran.Failed = Err RunnerFault
