use Rattle.std.proofs.Common.{Bool, List, Option, ℕ, Ok, Err, ap, subst, ◌∙◌}
use Rattle.std.proofs.lemmas.Result.{err_from_is_err_and}
use Rattle.http_exchange.specs.Sending.{SendsOnce}
use Rattle.worker_agent.specs.Requests.{lease_request}
use Rattle.worker_agent.specs.declared.answer.LeaseAnswer.{LeaseAnswer}
use Rattle.worker_core.specs.declared.event.Event.TheVariants as event
use Rattle.worker_agent.specs.Replies.{lease_event, lease_held, lost_status}
use Rattle.worker_agent.specs.Steps.{agent_after}
use Rattle.worker_agent.proofs.Saying.{asked-none, asked-short, asks-lease, lost-says, none-says, reply-ends, some-says, told_of}
use Rattle.worker_agent.proofs.agent.Agent.ask_lease.Goals as goal

pub returns-in_err-request-clause-says : goal.returns-in_err-request-clause-says
returns-in_err-request-clause-says g c = λ runner keys.
    let p = err_from_is_err_and c.from_residual.result c.from_residual.ensures.1 in
    rw (p.1, p.2)
    (asked-none (Unit {0}) c.args.worker.now c.args.self.now c.args.self.now
    (told_of (g.N.Network.told c.args.network.now) runner keys))

pub returns-in_err-sent-clause-says : goal.returns-in_err-sent-clause-says
returns-in_err-sent-clause-says g c = λ runner keys.
    let p = err_from_is_err_and c.from_residual-in_err-sent.result c.from_residual-in_err-sent.ensures.1 in
    rw (p.1, p.2)
    (asked-short (Unit {0}) c.args.worker.now c.args.self.now c.args.self.now (lease_request c.args.key c.args.worker.now)
    lease_event lease_held (g.N.Network.told c.args.network.now) (g.N.Network.told c.send_once.new.network) runner keys
    c.in_err-sent.field-0.0 (asks-lease c.args.worker.now c.args.self.now.core.last c.args.key c.requires)
    (subst (λ (r : List ℕ). SendsOnce r (g.N.Network.told c.args.network.now) (g.N.Network.told c.send_once.new.network)
    (Err c.in_err-sent.field-0.0)) (c.deref.ensures.value ∙ c.in_ok-request.ensures) c.in_err-sent.ensures.sends))

pub returns-in_err-lease-in-Answered-clause-says : goal.returns-in_err-lease-in-Answered-clause-says
returns-in_err-lease-in-Answered-clause-says g c = λ runner keys.
    let p = err_from_is_err_and c.from_residual-in_err-lease-in-Answered.result
    c.from_residual-in_err-lease-in-Answered.ensures.1 in
    rw (p.1, p.2)
    (reply-ends (Unit {0}) c.args.worker.now c.args.self.now c.args.self.now (lease_request c.args.key c.args.worker.now)
    (g.N.Network.told c.args.network.now) (g.N.Network.told c.send_once.new.network) runner keys c.in_ok-sent.sent
    c.in-Answered.response c.in_err-lease-in-Answered.field-0.0
    (asks-lease c.args.worker.now c.args.self.now.core.last c.args.key c.requires)
    (subst (λ (r : List ℕ). SendsOnce r (g.N.Network.told c.args.network.now) (g.N.Network.told c.send_once.new.network)
    (Ok c.in_ok-sent.sent)) (c.deref.ensures.value ∙ c.in_ok-request.ensures) c.in_ok-sent.ensures.sends)
    c.in-Answered.is c.in_err-lease-in-Answered.ensures.ended)

pub returns-in-Some-clause-says : goal.returns-in-Some-clause-says
returns-in-Some-clause-says g c = λ runner keys.
    some-says {A = Unit {0}} c.args.worker.now c.args.self.now c.hold.new.self (lease_request c.args.key c.args.worker.now)
    (g.N.Network.told c.args.network.now) (g.N.Network.told c.send_once.new.network) runner keys tt c.in_ok-sent.sent
    c.in-Answered.response c.in-Some.lease
    (asks-lease c.args.worker.now c.args.self.now.core.last c.args.key c.requires)
    (subst (λ (r : List ℕ). SendsOnce r (g.N.Network.told c.args.network.now) (g.N.Network.told c.send_once.new.network)
    (Ok c.in_ok-sent.sent)) (c.deref.ensures.value ∙ c.in_ok-request.ensures) c.in_ok-sent.ensures.sends)
    c.in-Answered.is (c.in_ok-lease-in-Answered.ensures.read ∙ ap (λ (o : Option LeaseAnswer). Ok o) c.in-Some.is) c.hold.ensures

pub returns-in-Answered-clause-says : goal.returns-in-Answered-clause-says
returns-in-Answered-clause-says g c = λ runner keys.
    none-says {A = Unit {0}} c.args.worker.now c.args.self.now c.note.new.self (lease_request c.args.key c.args.worker.now)
    (g.N.Network.told c.args.network.now) (g.N.Network.told c.send_once.new.network) runner keys tt c.in_ok-sent.sent
    c.in-Answered.response
    (asks-lease c.args.worker.now c.args.self.now.core.last c.args.key c.requires)
    (subst (λ (r : List ℕ). SendsOnce r (g.N.Network.told c.args.network.now) (g.N.Network.told c.send_once.new.network)
    (Ok c.in_ok-sent.sent)) (c.deref.ensures.value ∙ c.in_ok-request.ensures) c.in_ok-sent.ensures.sends)
    c.in-Answered.is (c.in_ok-lease-in-Answered.ensures.read ∙ ap (λ (o : Option LeaseAnswer). Ok o) c.in-None.is) c.note.ensures

pub returns-clause-says : goal.returns-clause-says
returns-clause-says g c = λ runner keys.
    lost-says {A = Unit {0}} c.args.worker.now c.args.self.now c.note-in-Lost.new.self (lease_request c.args.key c.args.worker.now)
    (g.N.Network.told c.args.network.now) (g.N.Network.told c.send_once.new.network) runner keys tt c.in_ok-sent.sent
    c.in-Lost.lost
    (asks-lease c.args.worker.now c.args.self.now.core.last c.args.key c.requires)
    (subst (λ (r : List ℕ). SendsOnce r (g.N.Network.told c.args.network.now) (g.N.Network.told c.send_once.new.network)
    (Ok c.in_ok-sent.sent)) (c.deref.ensures.value ∙ c.in_ok-request.ensures) c.in_ok-sent.ensures.sends)
    c.in-Lost.is
    (c.note-in-Lost.ensures
    ∙ ap (λ (n : ℕ). agent_after c.args.self.now c.args.self.now.lease (event.Lost n) c.is_network-faulted.result)
    c.lost_status.ensures
    ∙ ap (λ (b : Bool). agent_after c.args.self.now c.args.self.now.lease (event.Lost (lost_status c.in-Lost.lost)) b)
    c.is_network-faulted.ensures)
