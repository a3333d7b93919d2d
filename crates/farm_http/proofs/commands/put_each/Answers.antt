use Rattle.std.proofs.Common.{◌∙◌, [], refl, arith}
use Rattle.std.proofs.lemmas.Result.{err_from_is_err_and}
use Rattle.farm_http.specs.Bytes.{OutState, requests_bytes, said}
use Rattle.farm_http.proofs.Puts.{alike, alike-all, alike-step, alike-stop, cut-put, puts-out}
use Rattle.farm_http.proofs.commands.put_each.Goals as goal

pub returns-in_err-put_behind-clause-says : goal.returns-in_err-put_behind-clause-says
returns-in_err-put_behind-clause-says g c =
    let p = err_from_is_err_and c.from_residual.result c.from_residual.ensures.1 in
    let requests = c.args.requests.now in
    let r = said c.args.says.now in
    let start : OutState = record { sent = g.K.Sink.written c.args.link.now; held = [] } in
    let mid : OutState = record { sent = g.K.Sink.written c.loop-place.link; held = c.loop-place.out } in
    let last : OutState = record { sent = g.K.Sink.written c.put_behind.new.link; held = c.put_behind.new.out } in
    cut-put (requests_bytes requests (alike r requests)) start last c.from_residual.result p.0 p.1
    (alike-stop requests c.loop-place.place r start mid _ last c.loop-place-test.true c.loop-place.invariant.gathered
    c.in_err-put_behind.ensures.says) refl

pub loop-place-preserved : goal.loop-place-preserved
loop-place-preserved g c =
    let start : OutState = record { sent = g.K.Sink.written c.args.link.now; held = [] } in
    let mid : OutState = record { sent = g.K.Sink.written c.loop-place.link; held = c.loop-place.out } in
    let last : OutState = record { sent = g.K.Sink.written c.put_behind.new.link; held = c.put_behind.new.out } in
    record {
      within = omega arith;
      gathered =
          alike-step c.args.requests.now c.loop-place.place (said c.args.says.now) start mid _ last
          c.loop-place-test.true c.loop-place.invariant.gathered c.in_ok-put_behind.ensures.says;
      aside = c.in_ok-put_behind.ensures.aside ∙ c.loop-place.invariant.aside;
      never_falls = omega (arith, c.in_ok-put_behind.ensures.never_falls, c.loop-place.invariant.never_falls);
    }

pub returns-clause-says : goal.returns-clause-says
returns-clause-says g c =
    let requests = c.args.requests.now in
    let r = said c.args.says.now in
    let start : OutState = record { sent = g.K.Sink.written c.args.link.now; held = [] } in
    let mid : OutState = record { sent = g.K.Sink.written c.loop-place.link; held = c.loop-place.out } in
    let last : OutState = record { sent = g.K.Sink.written c.put_out.new.link; held = c.put_out.new.out } in
    puts-out (requests_bytes requests (alike r requests)) start mid last c.put_out.result
    (alike-all requests c.loop-place.place r start mid c.loop-place-test.false c.loop-place.invariant.gathered)
    c.put_out.ensures.says refl c.put_out.ensures.empty
