use Rattle.farm_http.proofs.Puts.{cut-held}
use Rattle.farm_http.proofs.responses.put_out.Goals as goal

pub returns-in-Err-clause-says : goal.returns-in-Err-clause-says
returns-in-Err-clause-says g c =
    let stop = c.in-Err.ensures.stopped in
    cut-held stop.0 (record { sent = g.K.Sink.written c.args.link.now; held = c.args.out.now })
    (record { sent = g.K.Sink.written c.put_on.new.output; held = c.put_on.new.self }) stop.2
