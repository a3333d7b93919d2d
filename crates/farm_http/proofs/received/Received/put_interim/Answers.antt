use Rattle.std.proofs.Common.{ap, sym, ◌∙◌}
use Rattle.farm_http.specs.Received.{ReceivedState}
use Rattle.farm_http.proofs.Receiving.{interim-part_put}
use Rattle.farm_http.proofs.received.Received.put_interim.Goals as goal

pub returns-in-Err-clause-says : goal.returns-in-Err-clause-says
returns-in-Err-clause-says g c =
    let stop = c.in-Err.ensures.stopped in
    interim-part_put c.args.asked c.args.self.now.interim (g.K.Sink.written c.args.link.now)
    (g.K.Sink.written c.put_interim.new.output)
    c.if-not-asked.false (sym (ap (λ (r : ReceivedState). r.interim) c.self.view_is) ∙ c.if-self.false)
    (record { count = stop.0; puts = stop.2 })
