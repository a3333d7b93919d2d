use Rattle.farm_http.specs.Bytes.{request_bytes, said}
use Rattle.farm_http.proofs.Puts.{puts-out}
use Rattle.farm_http.proofs.responses.put_response.Goals as goal

pub returns-clause-says : goal.returns-clause-says
returns-clause-says g c =
    puts-out (request_bytes c.args.request.now (said c.args.says.now))
    (record { sent = g.K.Sink.written c.args.link.now; held = c.args.out.now })
    (record { sent = g.K.Sink.written c.put_behind.new.link; held = c.put_behind.new.out })
    (record { sent = g.K.Sink.written c.put_out.new.link; held = c.put_out.new.out }) c.put_out.result
    c.in_ok-put_behind.ensures.says c.put_out.ensures.says c.requires.empty c.put_out.ensures.empty
