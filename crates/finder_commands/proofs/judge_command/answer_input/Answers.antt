use Rattle.std.proofs.Common.{Ok, Err, sym, ap, ◌∙◌, refl}
use Rattle.judge.specs.Answer.{judged}
use Rattle.link_io.specs.Streams.{streams}
use Rattle.finder_commands.specs.JudgeCommand.{JudgeEnds, JudgeCompletes}
use Rattle.finder_commands.specs.Statuses.{status_of_input, status_of_judge, status_of_put}
use Rattle.finder_commands.proofs.Judging.{carried, unread, unjudged, unjudged_completes, unput, done, done_completes}
use Rattle.finder_commands.proofs.judge_command.answer_input.Goals as goal

pub returns-in_err-bytes-clause-ends : goal.returns-in_err-bytes-clause-ends
returns-in_err-bytes-clause-ends g c =
    let before = streams g.S.Source g.K.Sink c.args.input.now c.args.output.now in
    let after = streams g.S.Source g.K.Sink c.read_input.new.input c.args.output.now in
    let fault = c.in_err-bytes.field-0.0 in
    let fails = c.in_err-bytes.ensures in
    carried (λ s. JudgeEnds s before after) _ (status_of_input fault) c.from_residual.ensures.1
    (unread before after fault (record {
      at_limit = λ is. fails.at_limit (ap (λ f. Err f) is);
      rises = λ is. fails.rises (ap (λ f. Err f) is);
    }) refl)

pub returns-in_err-answer-clause-ends : goal.returns-in_err-answer-clause-ends
returns-in_err-answer-clause-ends g c =
    let before = streams g.S.Source g.K.Sink c.args.input.now c.args.output.now in
    let after = streams g.S.Source g.K.Sink c.read_input.new.input c.args.output.now in
    let fault = c.in_err-answer.field-0.0 in
    let w = c.in_ok-bytes.ensures.whole in
    carried (λ s. JudgeEnds s before after) _ (status_of_judge fault) c.from_residual-in_err-answer.ensures.1
    (unjudged before after c.in_ok-bytes.bytes.items fault w
    (λ line is. ap judged (sym c.deref.ensures.value) ∙ c.in_err-answer.ensures.bad_input line (ap (λ f. Err f) is))
    refl)

pub returns-in_err-answer-clause-completes : goal.returns-in_err-answer-clause-completes
returns-in_err-answer-clause-completes g c =
    let before = streams g.S.Source g.K.Sink c.args.input.now c.args.output.now in
    let after = streams g.S.Source g.K.Sink c.read_input.new.input c.args.output.now in
    let fault = c.in_err-answer.field-0.0 in
    let w = c.in_ok-bytes.ensures.whole in
    carried (λ s. JudgeCompletes s before after) _ (status_of_judge fault) c.from_residual-in_err-answer.ensures.1
    (unjudged_completes before after c.in_ok-bytes.bytes.items fault w
    (λ line is. ap judged (sym c.deref.ensures.value) ∙ c.in_err-answer.ensures.bad_input line (ap (λ f. Err f) is)))

pub returns-in_err-put_all-clause-ends : goal.returns-in_err-put_all-clause-ends
returns-in_err-put_all-clause-ends g c =
    let before = streams g.S.Source g.K.Sink c.args.input.now c.args.output.now in
    let after = streams g.S.Source g.K.Sink c.read_input.new.input c.put_all.new.output in
    let fault = c.in_err-put_all.field-0.0 in
    let w = c.in_ok-bytes.ensures.whole in
    let put = c.in_err-put_all.ensures in
    carried (λ s. JudgeEnds s before after) _ (status_of_put fault) c.from_residual-in_err-put_all.ensures.1
    (unput before after c.in_ok-bytes.bytes.items c.as_bytes.result.now fault w
    (ap judged (sym c.deref.ensures.value)
    ∙ (c.in_ok-answer.ensures.answer ∙ ap (λ t. Ok t) (sym c.as_bytes.ensures.value)))
    (λ is. put.rises (ap (λ f. Err f) is))
    put.stopped)

pub returns-clause-ends : goal.returns-clause-ends
returns-clause-ends g c =
    let before = streams g.S.Source g.K.Sink c.args.input.now c.args.output.now in
    let after = streams g.S.Source g.K.Sink c.read_input.new.input c.put_all.new.output in
    let w = c.in_ok-bytes.ensures.whole in
    done before after c.in_ok-bytes.bytes.items c.as_bytes.result.now w
    (ap judged (sym c.deref.ensures.value)
    ∙ (c.in_ok-answer.ensures.answer ∙ ap (λ t. Ok t) (sym c.as_bytes.ensures.value)))
    c.in_ok-put_all.ensures.done

pub returns-clause-completes : goal.returns-clause-completes
returns-clause-completes g c =
    let before = streams g.S.Source g.K.Sink c.args.input.now c.args.output.now in
    let after = streams g.S.Source g.K.Sink c.read_input.new.input c.put_all.new.output in
    let w = c.in_ok-bytes.ensures.whole in
    done_completes before after c.in_ok-bytes.bytes.items c.as_bytes.result.now w
    (ap judged (sym c.deref.ensures.value)
    ∙ (c.in_ok-answer.ensures.answer ∙ ap (λ t. Ok t) (sym c.as_bytes.ensures.value)))
