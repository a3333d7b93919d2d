use Rattle.std.proofs.Common.{◌∙◌}
use Rattle.link_io.specs.Links.{link_state}
use Rattle.http_exchange.proofs.Outcomes.{over-told}
use Rattle.test_runners.proofs.host.ask_over.Goals as goal

pub returns : goal.returns
returns g c =
    let asked = c.ask-said.ensures.asked in
    let now = c.ask-said.new.link in (
      record { taken = asked.1; put = asked.0; ended = g.N.End.Source.ended now; count = g.N.End.Source.count now },
      c.done.ensures.told
          ∙ over-told (g.N.Network.told c.args.network.now) (link_state g.N.End.Source g.N.End.Sink c.args.link)
          (link_state g.N.End.Source g.N.End.Sink now) asked.0 asked.1 c.requires.fresh asked.2 asked.3
          c.ask-said.ensures.notes,
      asked.4,
    )
