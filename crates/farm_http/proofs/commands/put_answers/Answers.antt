use Rattle.std.proofs.Common.{◌∙◌, [], refl, arith}
use Rattle.std.proofs.lemmas.Result.{err_from_is_err_and}
use Rattle.farm_http.specs.Bytes.{OutState}
use Rattle.farm_http.proofs.Puts.{answers-cut, answers-out, answers-step, answers-stop}
use Rattle.farm_http.proofs.commands.put_answers.Goals as goal

pub returns-in_err-put_farm_answer-clause-says : goal.returns-in_err-put_farm_answer-clause-says
returns-in_err-put_farm_answer-clause-says g c =
    let p = err_from_is_err_and c.from_residual.result c.from_residual.ensures.1 in
    let requests = c.args.requests.now in
    let answers = c.args.answers.now in
    let start : OutState = record { sent = g.K.Sink.written c.args.link.now; held = [] } in
    let mid : OutState = record { sent = g.K.Sink.written c.loop-place.link; held = c.loop-place.out } in
    let last : OutState = record {
      sent = g.K.Sink.written c.put_farm_answer.new.link;
      held = c.put_farm_answer.new.out;
    } in
    let put = c.in_err-put_farm_answer.ensures.says in
    answers-cut requests answers start last c.from_residual.result p.0 p.1
    (answers-stop requests answers c.loop-place.place start mid c.requires.each _ c.index-answers-place.result put.0
    last c.index-answers-place.is c.loop-place-test.true c.loop-place.invariant.gathered put.1) refl

pub loop-place-preserved : goal.loop-place-preserved
loop-place-preserved g c =
    let start : OutState = record { sent = g.K.Sink.written c.args.link.now; held = [] } in
    let mid : OutState = record { sent = g.K.Sink.written c.loop-place.link; held = c.loop-place.out } in
    let last : OutState = record {
      sent = g.K.Sink.written c.put_farm_answer.new.link;
      held = c.put_farm_answer.new.out;
    } in
    let put = c.in_ok-put_farm_answer.ensures.says in
    record {
      within = omega arith;
      gathered =
          answers-step c.args.requests.now c.args.answers.now c.loop-place.place start mid c.requires.each _
          c.index-answers-place.result put.0 last c.index-answers-place.is c.loop-place-test.true
          c.loop-place.invariant.gathered put.1;
      aside = c.in_ok-put_farm_answer.ensures.aside ∙ c.loop-place.invariant.aside;
      never_falls = omega (arith, c.in_ok-put_farm_answer.ensures.never_falls, c.loop-place.invariant.never_falls);
    }

pub returns-clause-says : goal.returns-clause-says
returns-clause-says g c =
    let start : OutState = record { sent = g.K.Sink.written c.args.link.now; held = [] } in
    let mid : OutState = record { sent = g.K.Sink.written c.loop-place.link; held = c.loop-place.out } in
    let last : OutState = record { sent = g.K.Sink.written c.put_out.new.link; held = c.put_out.new.out } in
    answers-out c.args.requests.now c.args.answers.now c.loop-place.place start mid c.requires.each last
    c.put_out.result
    c.loop-place-test.false c.loop-place.invariant.within c.loop-place.invariant.gathered c.put_out.ensures.says refl
    c.put_out.ensures.empty
