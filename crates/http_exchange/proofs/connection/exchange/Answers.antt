use Rattle.std.proofs.Common.{List, Option, ap, ◌∙◌}
use Rattle.link_io.specs.Telling.{add_told}
use Rattle.link_io.specs.Events.{NetworkEvent, returned}
use Rattle.http_exchange.specs.Exchanges.{talk_state, talked}
use Rattle.http_exchange.proofs.Outcomes.{if_answered-weaker}
use Rattle.http_exchange.proofs.connection.exchange.Goals as goal

pub returns-in-Linked-clause-told : goal.returns-in-Linked-clause-told
returns-in-Linked-clause-told g c =
    let over = c.exchange_over.ensures.told in
    let made = c.in-Linked.ensures.told in (
      talked over.0,
      over.1 ∙ ap (λ (o : Option (List NetworkEvent)). add_told (returned (talk_state over.0)) o) made,
      over.2,
    )

pub returns-in-Linked-clause-enough : goal.returns-in-Linked-clause-enough
returns-in-Linked-clause-enough g c =
    if_answered-weaker _ _ c.exchange_over.result c.exchange_over.ensures.enough (λ came. (
      came.0,
      came.1 ∙ ap (λ (o : Option (List NetworkEvent)). add_told (returned (talk_state came.0)) o) c.in-Linked.ensures.told,
      came.2,
    ))
