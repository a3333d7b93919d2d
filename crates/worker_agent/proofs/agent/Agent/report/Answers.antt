use Rattle.std.proofs.Common.{Bool, List, ℕ, Ok, Err, ap, subst, ◌∙◌}
use Rattle.std.proofs.lemmas.Result.{err_from_is_err_and}
use Rattle.http_exchange.specs.Sending.{SendsOnce}
use Rattle.worker_agent.specs.Requests.{report_request}
use Rattle.worker_agent.specs.Replies.{report_event}
use Rattle.worker_agent.specs.Steps.{agent_after}
use Rattle.worker_agent.proofs.Saying.{as_held, asked-err, asked-none, asked-ok, asked-short, asks-report, told_of}
use Rattle.worker_agent.proofs.Suiting.{report-is}
use Rattle.worker_agent.proofs.agent.Agent.report.Goals as goal

pub returns-in_err-request-clause-says : goal.returns-in_err-request-clause-says
returns-in_err-request-clause-says g c = λ worker runner keys.
    let p = err_from_is_err_and c.from_residual.result c.from_residual.ensures.1 in
    rw (p.1, p.2)
    (asked-none (Unit {0}) worker c.args.self.now c.args.self.now (told_of (g.N.Network.told c.args.network.now) runner keys))

pub returns-in_err-sent-clause-says : goal.returns-in_err-sent-clause-says
returns-in_err-sent-clause-says g c = λ worker runner keys.
    let p = err_from_is_err_and c.from_residual-in_err-sent.result c.from_residual-in_err-sent.ensures.1 in
    rw (p.1, p.2)
    (asked-short (Unit {0}) worker c.args.self.now c.args.self.now (report_request c.args.run c.args.tested) report_event
    as_held (g.N.Network.told c.args.network.now) (g.N.Network.told c.send_once.new.network) runner keys
    c.in_err-sent.field-0.0 (asks-report worker c.args.self.now.core.last c.args.run c.args.tested c.requires)
    (subst (λ (r : List ℕ). SendsOnce r (g.N.Network.told c.args.network.now) (g.N.Network.told c.send_once.new.network)
    (Err c.in_err-sent.field-0.0)) (c.deref.ensures.value ∙ c.in_ok-request.ensures) c.in_err-sent.ensures.sends))

pub returns-in_err-event-clause-says : goal.returns-in_err-event-clause-says
returns-in_err-event-clause-says g c = λ worker runner keys.
    let p = err_from_is_err_and c.from_residual-in_err-event.result c.from_residual-in_err-event.ensures.1 in
    rw (p.1, p.2)
    (asked-err (Unit {0}) worker c.args.self.now c.args.self.now (report_request c.args.run c.args.tested) report_event
    as_held (g.N.Network.told c.args.network.now) (g.N.Network.told c.send_once.new.network) runner keys
    c.in_ok-sent.sent c.in_err-event.field-0.0
    (asks-report worker c.args.self.now.core.last c.args.run c.args.tested c.requires)
    (subst (λ (r : List ℕ). SendsOnce r (g.N.Network.told c.args.network.now) (g.N.Network.told c.send_once.new.network)
    (Ok c.in_ok-sent.sent)) (c.deref.ensures.value ∙ c.in_ok-request.ensures) c.in_ok-sent.ensures.sends)
    c.in_err-event.ensures.ended)

pub note-requires : goal.note-requires
note-requires g c =
    (report-is c.args.run c.args.tested c.in_ok-sent.sent c.in_ok-event.event c.in_ok-event.ensures.read).other

pub returns-clause-says : goal.returns-clause-says
returns-clause-says g c = λ worker runner keys.
    asked-ok {A = Unit {0}} worker c.args.self.now c.note.new.self (report_request c.args.run c.args.tested) report_event
    as_held (g.N.Network.told c.args.network.now) (g.N.Network.told c.send_once.new.network) runner keys tt
    c.in_ok-sent.sent c.in_ok-event.event
    (asks-report worker c.args.self.now.core.last c.args.run c.args.tested c.requires)
    (subst (λ (r : List ℕ). SendsOnce r (g.N.Network.told c.args.network.now) (g.N.Network.told c.send_once.new.network)
    (Ok c.in_ok-sent.sent)) (c.deref.ensures.value ∙ c.in_ok-request.ensures) c.in_ok-sent.ensures.sends)
    c.in_ok-event.ensures.read
    (c.note.ensures
    ∙ ap (λ (b : Bool). agent_after c.args.self.now c.args.self.now.lease c.in_ok-event.event b) c.is_network.ensures)
