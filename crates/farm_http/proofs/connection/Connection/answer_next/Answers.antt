use Rattle.std.proofs.Common.{rules, ◌≡◌, ◌∙◌, ◌⊎◌, Bool, true, length, ap, sym, subst, refl, arith}
use Rattle.connection_laws.specs.Progress.{progress_after, progress_from}
use Rattle.common_types.specs.Counts.{Rose}
use Rattle.link_io.specs.Intake.{Intake}
use Rattle.link_io.specs.declared.source.TheConstants.{INPUT_LIMIT}
use Rattle.farm_http.proofs.Noted.{noted-alone}
use Rattle.farm_http.proofs.Endings.{goes_on-stopped, serving-closes, serving-complete, serving-stops}
use Rattle.farm_http.proofs.Serving.{answered-legal, front-start, partly-legal, serving-answers}
use Rattle.farm_http.specs.Faults.{OnPutFault}
use Rattle.farm_http.proofs.Stops.{on_read-put}
use Rattle.farm_http.proofs.Work.{answered-count, work-answers}
use Rattle.farm_http.proofs.connection.Connection.answer_next.Goals as goal

pub returns-in_err-done-clause-legal : goal.returns-in_err-done-clause-legal
returns-in_err-done-clause-legal g c =
    let pass = c.args.caller.now.pass in
    let f = c.in_err-done.ensures.says (progress_from pass.seen c.args.caller.now.reader pass.faults)
    (front-start pass c.args.caller.now.reader) refl in
    partly-legal _ _ _ _ _ _ _ _ f.says c.requires.legal

pub returns-in_err-done-clause-goes_on : goal.returns-in_err-done-clause-goes_on
returns-in_err-done-clause-goes_on g c start old before is legal =
    let f = c.in_err-done.ensures.says (progress_after start is.steps) is.after.within is.after.counted in
    let first = g.L.Sink.aside c.args.link.now in
    let last = g.L.Sink.aside c.answer_front.new.link in
    let alone = noted-alone first last (g.L.Sink.written c.args.link.now) c.answer_front.new.caller.pass
    c.answer_front.ensures.aside in
    let taken = sym (ap (λ (i : Intake). i.taken) (g.met.L.Link.taken_aside c.answer_front.new.link)) ∙ alone.taken
    ∙ ap (λ (i : Intake). i.taken) (g.met.L.Link.taken_aside c.args.link.now) in
    let ended = sym (ap (λ (i : Intake). i.ended) (g.met.L.Link.taken_aside c.answer_front.new.link)) ∙ alone.ended
    ∙ ap (λ (i : Intake). i.ended) (g.met.L.Link.taken_aside c.args.link.now) in
    let cause : OnPutFault c.from_residual.result
    (Rose (g.L.Sink.count c.args.link.now) (g.L.Sink.count c.answer_front.new.link)) = search rules in
    goes_on-stopped start _ old before _ _ _ _ _ _ _ c.from_residual.ensures.1
    (λ fault is_fault items end whole. serving-stops start _ old before fault _ _ _ _ _ _ f.put items end first
    last is legal f.says refl refl alone.notes c.answer_front.ensures.rows taken f.puts whole
    (on_read-put c.from_residual.result _ _ fault cause is_fault))

pub overflow_add-self : goal.overflow_add-self
overflow_add-self g c =
    let pass = c.args.caller.now.pass in
    let f = c.in_ok-done.ensures.says (progress_from pass.seen c.args.caller.now.reader pass.faults)
    (front-start pass c.args.caller.now.reader) refl in
    omega (arith, answered-count _ _ _ _ _ _ _ _ _ _ f.says, c.requires.few)

pub returns-then-done-clause-legal : goal.returns-then-done-clause-legal
returns-then-done-clause-legal g c =
    let pass = c.args.caller.now.pass in
    let f = c.in_ok-done.ensures.says (progress_from pass.seen c.args.caller.now.reader pass.faults)
    (front-start pass c.args.caller.now.reader) refl in
    answered-legal _ _ _ _ _ _ _ _ _ _ f.says c.requires.legal

pub returns-then-done-clause-goes_on : goal.returns-then-done-clause-goes_on
returns-then-done-clause-goes_on g c start old before is legal =
    let f = c.in_ok-done.ensures.says (progress_after start is.steps) is.after.within is.after.counted in
    let first = g.L.Sink.aside c.args.link.now in
    let last = g.L.Sink.aside c.answer_front.new.link in
    let alone = noted-alone first last (g.L.Sink.written c.args.link.now) c.answer_front.new.caller.pass
    c.answer_front.ensures.aside in
    let taken = sym (ap (λ (i : Intake). i.taken) (g.met.L.Link.taken_aside c.answer_front.new.link)) ∙ alone.taken
    ∙ ap (λ (i : Intake). i.taken) (g.met.L.Link.taken_aside c.args.link.now) in
    let ended = sym (ap (λ (i : Intake). i.ended) (g.met.L.Link.taken_aside c.answer_front.new.link)) ∙ alone.ended
    ∙ ap (λ (i : Intake). i.ended) (g.met.L.Link.taken_aside c.args.link.now) in
    serving-closes start _ old before _ _ _ _ _ _ f.put _ _ _ first last is f.says refl refl alone.notes
    c.answer_front.ensures.rows c.if-done.true
    (λ complete. subst (λ (b : Bool). (b ≡ true) ⊎ (length is.taken ≡ INPUT_LIMIT))
    (sym ended) (serving-complete start _ old before _ _ _ _ is complete))
    taken f.puts refl refl

pub pass_over-requires : goal.pass_over-requires
pass_over-requires g c =
    let pass = c.args.caller.now.pass in
    let f = c.in_ok-done.ensures.says (progress_from pass.seen c.args.caller.now.reader pass.faults)
    (front-start pass c.args.caller.now.reader) refl in
    let open_ = f.says.front.1 c.if-done.false in
    open_.within

pub returns-clause-legal : goal.returns-clause-legal
returns-clause-legal g c =
    let pass = c.args.caller.now.pass in
    let f = c.in_ok-done.ensures.says (progress_from pass.seen c.args.caller.now.reader pass.faults)
    (front-start pass c.args.caller.now.reader) refl in
    answered-legal _ _ _ _ _ _ _ _ _ _ f.says c.requires.legal

pub returns-clause-goes_on : goal.returns-clause-goes_on
returns-clause-goes_on g c start old before is legal =
    let f = c.in_ok-done.ensures.says (progress_after start is.steps) is.after.within is.after.counted in
    let first = g.L.Sink.aside c.args.link.now in
    let last = g.L.Sink.aside c.answer_front.new.link in
    let alone = noted-alone first last (g.L.Sink.written c.args.link.now) c.answer_front.new.caller.pass
    c.answer_front.ensures.aside in
    let taken = sym (ap (λ (i : Intake). i.taken) (g.met.L.Link.taken_aside c.answer_front.new.link)) ∙ alone.taken
    ∙ ap (λ (i : Intake). i.taken) (g.met.L.Link.taken_aside c.args.link.now) in
    let ended = sym (ap (λ (i : Intake). i.ended) (g.met.L.Link.taken_aside c.answer_front.new.link)) ∙ alone.ended
    ∙ ap (λ (i : Intake). i.ended) (g.met.L.Link.taken_aside c.args.link.now) in
    let open_ = f.says.front.1 c.if-done.false in
    let some = f.says.some in let few = open_.few in (
      serving-answers start _ old before _ _ _ _ _ _ _ _ f.put _ _ first last is f.says refl refl alone.notes
          c.answer_front.ensures.rows c.if-done.false
          taken ended f.puts c.pass_over.ensures refl,
      work-answers c.args.self.now.received c.pass_over.new.self c.in_ok-done.done.size (omega arith) open_.within
          c.pass_over.ensures,
    )
