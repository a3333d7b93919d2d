use Rattle.std.proofs.Common.{ℕ, List, Option, ap, subst, ◌∙◌}
use Rattle.link_io.specs.Telling.{add_told}
use Rattle.link_io.specs.Events.{NetworkEvent, returned}
use Rattle.http_exchange.specs.Exchanges.{talk_state, talked}
use Rattle.test_runners.specs.Host.{SaysOver}
use Rattle.test_runners.proofs.host.ask_host.Goals as goal

pub returns-in-Linked : goal.returns-in-Linked
returns-in-Linked g c =
    let over = c.ask_over.ensures in
    let made = c.in-Linked.ensures.told in (
      talked over.0,
      over.1 ∙ ap (λ (o : Option (List NetworkEvent)). add_told (returned (talk_state over.0)) o) made,
      subst (λ (q : List ℕ). SaysOver q (talked over.0) c.ask_over.result) (c.as_slice.ensures.value ∙ c.question-line.ensures) over.2,
    )
