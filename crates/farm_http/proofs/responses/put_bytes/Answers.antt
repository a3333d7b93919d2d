use Rattle.farm_http.proofs.Telling.{part-put}
use Rattle.farm_http.proofs.responses.put_bytes.Goals as goal

pub returns-in-Err-clause-says : goal.returns-in-Err-clause-says
returns-in-Err-clause-says g c =
    let stop = c.in-Err.ensures.stopped in
    part-put stop.0 c.args.bytes.now (g.K.Sink.written c.args.link.now) (g.K.Sink.written c.put_all.new.output) stop.2
