use Rattle.std.proofs.Common.{◌≡◌, ◌<◌, [], length, take, refl, inl, sym, ap, ◌∙◌, arith}
use Rattle.std.proofs.lemmas.List.{length-take}
use Rattle.link_io.specs.Intake.{Intake}
use Rattle.link_io.specs.Notes.{Output}
use Rattle.http_exchange.proofs.Outcomes.{prefix-take, taken-kept}
use Rattle.test_runners.proofs.Asked.{asked-says, known-over}
use Rattle.test_runners.proofs.host.ask.Goals as goal

pub returns-in-Err-clause-asked : goal.returns-in-Err-clause-asked
returns-in-Err-clause-asked g c =
    let stop = c.in-Err.ensures.stopped in
    let law = g.met.L.Link.taken_aside in
    let kept : g.L.Source.taken c.put_all.new.output ≡ g.L.Source.taken c.args.link.now =
    ap (λ (i : Intake). i.taken)
    (sym (law c.put_all.new.output) ∙ c.in-Err.ensures.aside ∙ law c.args.link.now) in
    let short : length (take stop.0 c.args.question.now) < length c.args.question.now =
    omega (arith, length-take stop.0 c.args.question.now, stop.1) in (
      take stop.0 c.args.question.now,
      [],
      stop.2,
      taken-kept _ _ kept,
      inl (prefix-take stop.0 c.args.question.now, short, refl),
    )

pub returns-clause-asked : goal.returns-clause-asked
returns-clause-asked g c =
    let law = g.met.L.Link.taken_aside in
    let written = g.met.L.Link.written_aside in
    let kept : g.L.Source.taken c.put_all.new.output ≡ g.L.Source.taken c.args.link.now =
    ap (λ (i : Intake). i.taken)
    (sym (law c.put_all.new.output) ∙ c.put_all.ensures.aside ∙ law c.args.link.now) in
    let aside = c.take_answer.ensures.aside in
    let took = c.take_answer.ensures.taken in (
      c.args.question.now,
      took.0,
      ap (λ (o : Output). o.written)
          (sym (written c.take_answer.new.link) ∙ aside ∙ written c.put_all.new.output) ∙ c.in-Ok.ensures.done,
      known-over _ _ _ took.0 kept took.1,
      asked-says c.args.question.now took.0 (g.L.Source.ended c.take_answer.new.link)
          (g.L.Source.count c.take_answer.new.link) c.take_answer.result took.2,
    )

pub returns-in-Err-clause-notes : goal.returns-in-Err-clause-notes
returns-in-Err-clause-notes g c = ap (λ (i : Intake). i.notes) c.in-Err.ensures.aside

pub returns-clause-notes : goal.returns-clause-notes
returns-clause-notes g c =
    let written = g.met.L.Link.written_aside in
    ap (λ (o : Output). o.notes)
    (sym (written c.take_answer.new.link) ∙ c.take_answer.ensures.aside ∙ written c.put_all.new.output)
    ∙ ap (λ (i : Intake). i.notes) c.put_all.ensures.aside
