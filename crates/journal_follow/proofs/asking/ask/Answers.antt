-- What an ask comes to.
use Rattle.std.proofs.Common.{◌∙◌, ◌≡◌, List, ℕ, sym, subst}
use Rattle.std.specs.Prelude.{Err, IsErrOf, Ok, Result}
use Rattle.std.proofs.lemmas.Result.{err_from_is_err_and}
use Rattle.farm_entry.specs.declared.entry.Entry.{Entry}
use Rattle.http_exchange.specs.Sending.{Sends}
use Rattle.http_exchange.specs.declared.sending.Sent.{Sent}
use Rattle.journal_follow.specs.Asked.{AskComesTo}
use Rattle.journal_follow.specs.Asks.{Reads, ask_request}
use Rattle.journal_follow.specs.declared.fault.FollowFault.{FollowFault}
use Rattle.journal_follow.proofs.Tries.{ask-answered, ask-lost, ask-none, ask-short, reads-not-net}
use Rattle.journal_follow.proofs.asking.ask.Goals as goal

pub returns-in_err-request-clause-comes : goal.returns-in_err-request-clause-comes
returns-in_err-request-clause-comes g c =
    let p = err_from_is_err_and c.from_residual.result c.from_residual.ensures.1 in
    rw (p.1, p.2) (ask-none c.args.from (g.N.Network.told c.args.network.now))

pub returns-in_err-sent-clause-comes : goal.returns-in_err-sent-clause-comes
returns-in_err-sent-clause-comes g c =
    let p = err_from_is_err_and c.from_residual-in_err-sent.result c.from_residual-in_err-sent.ensures.1 in
    rw (p.1, p.2)
    (ask-short c.args.from (g.N.Network.told c.args.network.now) (g.N.Network.told c.send.new.network)
    (subst (λ (r : List ℕ). Sends r (g.N.Network.told c.args.network.now) (g.N.Network.told c.send.new.network)
    (Err c.in_err-sent.field-0.0)) (c.deref.ensures.value ∙ c.in_ok-request.ensures) c.in_err-sent.ensures.sends))

pub returns-in-Answered-clause-comes : goal.returns-in-Answered-clause-comes
returns-in-Answered-clause-comes g c =
    ask-answered c.args.from (g.N.Network.told c.args.network.now) (g.N.Network.told c.send.new.network)
    c.in-Answered.response c.page_in.result
    (subst (λ (s : Sent). Sends (ask_request c.args.from) (g.N.Network.told c.args.network.now)
    (g.N.Network.told c.send.new.network) (Ok s)) c.in-Answered.is
    (subst (λ (r : List ℕ). Sends r (g.N.Network.told c.args.network.now) (g.N.Network.told c.send.new.network)
    (Ok c.in_ok-sent.sent)) (c.deref.ensures.value ∙ c.in_ok-request.ensures) c.in_ok-sent.ensures.sends))
    c.page_in.ensures

pub returns-in-Answered-clause-net_fault : goal.returns-in-Answered-clause-net_fault
returns-in-Answered-clause-net_fault g c = λ is.
    absurd (reads-not-net c.args.from c.in-Answered.response
    (subst (λ (r : Result (List Entry) FollowFault). Reads c.args.from c.in-Answered.response r) is c.page_in.ensures))

pub returns-clause-comes : goal.returns-clause-comes
returns-clause-comes g c =
    subst (λ (f : FollowFault). AskComesTo c.args.from (g.N.Network.told c.args.network.now)
    (g.N.Network.told c.send.new.network) (Err f)) (sym c.given_up.ensures)
    (ask-lost c.args.from (g.N.Network.told c.args.network.now) (g.N.Network.told c.send.new.network) c.in-Lost.lost
    (subst (λ (s : Sent). Sends (ask_request c.args.from) (g.N.Network.told c.args.network.now)
    (g.N.Network.told c.send.new.network) (Ok s)) c.in-Lost.is
    (subst (λ (r : List ℕ). Sends r (g.N.Network.told c.args.network.now) (g.N.Network.told c.send.new.network)
    (Ok c.in_ok-sent.sent)) (c.deref.ensures.value ∙ c.in_ok-request.ensures) c.in_ok-sent.ensures.sends)))
