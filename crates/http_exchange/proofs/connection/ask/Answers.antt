use Rattle.std.proofs.Common.{◌≡◌, [], take, sym, ap, ◌∙◌}
use Rattle.std.proofs.lemmas.Result.{err_from_is_err_and}
use Rattle.link_io.specs.Intake.{Intake}
use Rattle.link_io.specs.Notes.{Output}
use Rattle.http_exchange.proofs.Outcomes.{asked-unput, prefix-take, taken-kept}
use Rattle.http_exchange.proofs.connection.ask.Goals as goal

pub returns-in_err-put_all-clause-asked : goal.returns-in_err-put_all-clause-asked
returns-in_err-put_all-clause-asked g c =
    let stop = c.in_err-put_all.ensures.stopped in
    let p = err_from_is_err_and c.from_residual.result c.from_residual.ensures.1 in
    let law = g.met.L.Link.taken_aside in
    let kept : g.L.Source.taken c.put_all.new.output ≡ g.L.Source.taken c.args.link.now =
    ap (λ (i : Intake). i.taken)
    (sym (law c.put_all.new.output) ∙ c.in_err-put_all.ensures.aside ∙ law c.args.link.now) in (
      take stop.0 c.args.request.now,
      [],
      stop.2,
      taken-kept _ _ kept,
      rw (p.1, p.2)
          (asked-unput c.args.request.now (take stop.0 c.args.request.now) (g.L.Source.ended c.put_all.new.output)
          c.in_err-put_all.field-0.0 (prefix-take stop.0 c.args.request.now)),
    )

pub returns-in_err-put_all-clause-notes : goal.returns-in_err-put_all-clause-notes
returns-in_err-put_all-clause-notes g c = ap (λ (i : Intake). i.notes) c.in_err-put_all.ensures.aside

pub returns-clause-notes : goal.returns-clause-notes
returns-clause-notes g c =
    let law = g.met.L.Link.written_aside in
    ap (λ (o : Output). o.notes)
    (sym (law c.take_response.new.link) ∙ c.take_response.ensures.aside ∙ law c.put_all.new.output)
    ∙ ap (λ (i : Intake). i.notes) c.put_all.ensures.aside
