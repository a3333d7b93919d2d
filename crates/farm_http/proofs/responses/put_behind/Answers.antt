use Rattle.std.proofs.Common.{refl}
use Rattle.farm_http.specs.Bytes.{request_bytes, said}
use Rattle.farm_http.proofs.Puts.{cut-itself, put-itself}
use Rattle.farm_http.proofs.responses.put_behind.Goals as goal

pub returns-in-Ok-clause-says : goal.returns-in-Ok-clause-says
returns-in-Ok-clause-says g c =
    put-itself (request_bytes c.args.request.now (said c.args.says.now)) _ c.gather.new.out
    (record { sent = g.K.Sink.written c.args.link.now; held = c.args.out.now })
    (record { sent = g.K.Sink.written c.put_out.new.link; held = c.put_out.new.out })
    (record { sent = g.K.Sink.written c.put_said.new.output; held = c.gather-2.new.out }) refl
    (c.gather.ensures.kept c.if-gather.false) c.in_ok-put_out.ensures.says c.in_ok-put_out.ensures.empty
    (c.gather-2.ensures.kept c.if-gather-2.false) c.in-Ok.ensures.done

pub returns-in-Err-clause-says : goal.returns-in-Err-clause-says
returns-in-Err-clause-says g c =
    let stop = c.in-Err.ensures.stopped in
    cut-itself (request_bytes c.args.request.now (said c.args.says.now)) _ c.gather.new.out stop.0
    (record { sent = g.K.Sink.written c.args.link.now; held = c.args.out.now })
    (record { sent = g.K.Sink.written c.put_out.new.link; held = c.put_out.new.out })
    (record { sent = g.K.Sink.written c.put_said.new.output; held = c.gather-2.new.out }) refl
    (c.gather.ensures.kept c.if-gather.false) c.in_ok-put_out.ensures.says c.in_ok-put_out.ensures.empty stop.2
