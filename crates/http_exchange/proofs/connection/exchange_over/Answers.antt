use Rattle.std.proofs.Common.{ℕ, ◌∙◌, subst}
use Rattle.common_types.specs.Counts.{Rose}
use Rattle.link_io.specs.Links.{link_state}
use Rattle.http_exchange.specs.Exchanges.{IsOutcome}
use Rattle.http_exchange.proofs.Outcomes.{answered-by, if_answered, on_ok-weaker, over-told}
use Rattle.http_exchange.proofs.connection.exchange_over.Goals as goal

pub returns-clause-told : goal.returns-clause-told
returns-clause-told g c =
    let asked = c.ask-answer.ensures.asked in
    let now = c.ask-answer.new.link in
    let count = g.N.End.Source.count now in
    let is = subst (λ (n : ℕ). IsOutcome c.ask-answer.result n c.outcome.result) c.faults-faults.ensures c.outcome.ensures in (
      record { taken = asked.1; put = asked.0; ended = g.N.End.Source.ended now; count = count },
      c.done.ensures.told
          ∙ over-told (g.N.Network.told c.args.network.now) (link_state g.N.End.Source g.N.End.Sink c.args.link)
          (link_state g.N.End.Source g.N.End.Sink now) asked.0 asked.1 c.requires.fresh asked.2 asked.3
          c.ask-answer.ensures.notes,
      answered-by c.args.request.now asked.0 asked.1 (g.N.End.Source.ended now) count c.ask-answer.result c.outcome.result asked.4
          is (λ failed. subst (λ (n : ℕ). Rose n count) c.requires.unfailed (c.ask-answer.ensures.rises failed)),
    )

pub returns-clause-enough : goal.returns-clause-enough
returns-clause-enough g c =
    let now = c.ask-answer.new.link in
    let count = g.N.End.Source.count now in
    let is = subst (λ (n : ℕ). IsOutcome c.ask-answer.result n c.outcome.result) c.faults-faults.ensures c.outcome.ensures in
    if_answered _ c.ask-answer.result count c.outcome.result is
    (on_ok-weaker _ _ c.ask-answer.result c.ask-answer.ensures.enough (λ came. (
      record { taken = came.1; put = came.0; ended = g.N.End.Source.ended now; count = count },
      c.done.ensures.told
          ∙ over-told (g.N.Network.told c.args.network.now) (link_state g.N.End.Source g.N.End.Sink c.args.link)
          (link_state g.N.End.Source g.N.End.Sink now) came.0 came.1 c.requires.fresh came.2 came.3
          c.ask-answer.ensures.notes,
      came.4,
    )))
