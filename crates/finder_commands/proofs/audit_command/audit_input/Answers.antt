use Rattle.std.proofs.Common.{Err, refl, ap}
use Rattle.link_io.specs.Streams.{streams}
use Rattle.finder_commands.specs.AuditCommand.{AuditEnds}
use Rattle.finder_commands.specs.Statuses.{status_of_input, status_of_put}
use Rattle.finder_commands.specs.declared.status.Status.TheVariants.{Memory}
use Rattle.finder_commands.proofs.Auditing.{line-carried, line_completes, put_line, unmade, unput_line, unread_audit}
use Rattle.finder_commands.proofs.Judging.{carried}
use Rattle.finder_commands.proofs.audit_command.audit_input.Goals as goal

pub returns-in_err-bytes-clause-ends : goal.returns-in_err-bytes-clause-ends
returns-in_err-bytes-clause-ends g c =
    let before = streams g.S.Source g.K.Sink c.args.input.now c.args.output.now in
    let after = streams g.S.Source g.K.Sink c.read_input.new.input c.args.output.now in
    let fault = c.in_err-bytes.field-0.0 in
    let fails = c.in_err-bytes.ensures in
    carried (λ s. AuditEnds s before after) _ (status_of_input fault) c.from_residual.ensures.1
    (unread_audit before after fault (record {
      at_limit = λ is. fails.at_limit (ap (λ f. Err f) is);
      rises = λ is. fails.rises (ap (λ f. Err f) is);
    }) refl)

pub returns-in_err-line-clause-ends : goal.returns-in_err-line-clause-ends
returns-in_err-line-clause-ends g c =
    let before = streams g.S.Source g.K.Sink c.args.input.now c.args.output.now in
    let after = streams g.S.Source g.K.Sink c.read_input.new.input c.args.output.now in
    carried (λ s. AuditEnds s before after) _ Memory c.from_residual-in_err-line.ensures.1 (unmade before after refl)

pub returns-in_err-put_all-clause-ends : goal.returns-in_err-put_all-clause-ends
returns-in_err-put_all-clause-ends g c =
    let before = streams g.S.Source g.K.Sink c.args.input.now c.args.output.now in
    let after = streams g.S.Source g.K.Sink c.read_input.new.input c.put_all.new.output in
    let fault = c.in_err-put_all.field-0.0 in
    let put = c.in_err-put_all.ensures in
    let line = line-carried _ c.in_ok-bytes.bytes.items _ c.as_bytes.result.now c.deref.ensures.value
    c.as_bytes.ensures.value c.in_ok-line.ensures in
    carried (λ s. AuditEnds s before after) _ (status_of_put fault) c.from_residual-in_err-put_all.ensures.1
    (unput_line before after c.in_ok-bytes.bytes.items c.as_bytes.result.now fault c.in_ok-bytes.ensures.whole line
    (λ is. put.rises (ap (λ f. Err f) is)) put.stopped)

pub returns-clause-ends : goal.returns-clause-ends
returns-clause-ends g c =
    let before = streams g.S.Source g.K.Sink c.args.input.now c.args.output.now in
    let after = streams g.S.Source g.K.Sink c.read_input.new.input c.put_all.new.output in
    let line = line-carried _ c.in_ok-bytes.bytes.items _ c.as_bytes.result.now c.deref.ensures.value
    c.as_bytes.ensures.value c.in_ok-line.ensures in
    put_line before after c.in_ok-bytes.bytes.items c.as_bytes.result.now c.in_ok-bytes.ensures.whole line
    c.in_ok-put_all.ensures.done

pub returns-clause-completes : goal.returns-clause-completes
returns-clause-completes g c =
    let before = streams g.S.Source g.K.Sink c.args.input.now c.args.output.now in
    let after = streams g.S.Source g.K.Sink c.read_input.new.input c.put_all.new.output in
    line_completes before after c.in_ok-bytes.bytes.items c.in_ok-bytes.ensures.whole
