use Rattle.std.proofs.Common.{rules, ◌≡◌, ◌∙◌, ◌<◌, ◌&&◌, ◌||◌, not, List, ℕ, ap, sym, subst}
use Rattle.std.specs.Io.KnownBytes.{append_known}
use Rattle.connection_laws.specs.Answers.{interim_of}
use Rattle.connection_laws.specs.Waiting.{AreWaiting}
use Rattle.common_types.specs.Counts.{Rose}
use Rattle.http_requests.specs.Items.{Items}
use Rattle.link_io.specs.Intake.{Intake}
use Rattle.link_io.specs.Links.{link_state}
use Rattle.link_io.specs.Notes.{Output}
use Rattle.link_io.specs.declared.source.TheConstants.{INPUT_LIMIT}
use Rattle.common_types.specs.Prefix.{IsPrefix}
use Rattle.farm_http.specs.Connection.{work_left}
use Rattle.farm_http.specs.Faults.{OnPutFault}
use Rattle.farm_http.specs.Received.{IsTaken, ReceivedState}
use Rattle.farm_http.proofs.Asked.{body-asks, body-waits, head-waits, next-asks, next-out}
use Rattle.farm_http.proofs.Noted.{TakesNotes-same}
use Rattle.farm_http.proofs.Endings.{goes_on-from, goes_on-stopped, serving-idle, serving-unput, serving-untaken}
use Rattle.farm_http.proofs.Serving.{serving-interim, serving-takes}
use Rattle.farm_http.proofs.Stops.{on_read-put}
use Rattle.farm_http.proofs.Work.{open-ended, work-takes}
use Rattle.farm_http.proofs.connection.Connection.serve_next.Goals as goal

pub returns-in_err-take-in-More-clause-goes_on : goal.returns-in_err-take-in-More-clause-goes_on
returns-in_err-take-in-More-clause-goes_on g c start old before is legal =
    let same = c.in_err-take-in-More.ensures.failed ∙ c.in-More.ensures.same in
    let kept = sym (g.met.L.Link.written_aside c.take.new.link) ∙ c.take.ensures.aside
    ∙ g.met.L.Link.written_aside c.args.link.now in
    goes_on-stopped start _ old before _ _ _ _ _ _ _ c.from_residual.ensures.1
    (λ fault is_fault items end whole. serving-untaken start _ old before fault _ _ _ _ _ items end is legal
    c.in_err-take-in-More.ensures.untaken (ap (λ (o : Output). o.written) kept)
    (TakesNotes-same _ _ (ap (λ (o : Output). o.notes) kept))
    (subst (λ (x : ReceivedState). Items x.held items end) same whole)
    (head-waits _ c.args.self.now.received.held c.args.self.now.received.interim c.in-More.ensures.says
    c.requires.interim))

pub returns-in_ok-take-in-More-clause-goes_on : goal.returns-in_ok-take-in-More-clause-goes_on
returns-in_ok-take-in-More-clause-goes_on g c start old before is legal =
    let t = subst (λ (x : ReceivedState). IsTaken x c.take.new.self (g.L.Source.taken c.args.link.now)
    (g.L.Source.taken c.take.new.link) (g.L.Source.ended c.take.new.link)) c.in-More.ensures.same
    c.in_ok-take-in-More.ensures.taken in
    let kept = sym (g.met.L.Link.written_aside c.take.new.link) ∙ c.take.ensures.aside
    ∙ g.met.L.Link.written_aside c.args.link.now in (
      serving-takes start _ old before _ _ _ _ _ _ is t (ap (λ (o : Output). o.written) kept)
          (TakesNotes-same _ _ (ap (λ (o : Output). o.notes) kept)),
      work-takes c.args.self.now.received c.take.new.self _ _ _ t
          (open-ended c.args.self.now.received c.in-More.ensures.says.open_),
    )

pub returns-in-End-clause-goes_on : goal.returns-in-End-clause-goes_on
returns-in-End-clause-goes_on g c start old before is legal =
    let same = c.in-End.ensures.same in
    serving-idle start _ old before _ _ _ _ _ is c.in-End.ensures.says.0 c.in-End.ensures.says.1
    (λ e. c.why.ensures.limit (ap (λ (x : ReceivedState). x.taken) same ∙ e))
    (λ lt. c.why.ensures.end (subst (λ (x : ReceivedState). x.taken < INPUT_LIMIT) (sym same) lt))

pub returns-in_err-put_interim-in-Body-clause-goes_on : goal.returns-in_err-put_interim-in-Body-clause-goes_on
returns-in_err-put_interim-in-Body-clause-goes_on g c start old before is legal =
    let cause : OnPutFault c.from_residual-in_err-put_interim-in-Body.result
    (Rose (g.L.Sink.count c.args.link.now) (g.L.Sink.count c.put_interim.new.link)) = search rules in
    let e = c.in_err-put_interim-in-Body.ensures in
    let was = c.in-Body.ensures.same in
    let halves = sym (g.met.L.Link.taken_aside c.put_interim.new.link) ∙ c.put_interim.ensures.aside
    ∙ g.met.L.Link.taken_aside c.args.link.now in
    let puts = subst (λ (x : ReceivedState). (part : List ℕ)
    × IsPrefix part (interim_of (c.in-Body.awaited.interim && not x.interim))
    × (g.L.Sink.written c.put_interim.new.link ≡ append_known (g.L.Sink.written c.args.link.now) part)) was e.says in
    goes_on-stopped start _ old before _ _ _ _ _ _ _ c.from_residual-in_err-put_interim-in-Body.ensures.1
    (λ fault is_fault items end whole. serving-unput start _ old before fault _ _ _ _ _ c.in-Body.awaited.interim items
    end is legal (body-asks _ _ c.in-Body.awaited c.in-Body.ensures.says) (ap (λ (i : Intake). i.taken) halves) puts
    (TakesNotes-same _ _ (ap (λ (i : Intake). i.notes) c.put_interim.ensures.aside))
    (subst (λ (x : ReceivedState). Items x.held items end) (e.kept ∙ was) whole)
    (on_read-put c.from_residual-in_err-put_interim-in-Body.result _ _ fault cause is_fault))

pub returns-in_err-take-in-Body-clause-goes_on : goal.returns-in_err-take-in-Body-clause-goes_on
returns-in_err-take-in-Body-clause-goes_on g c start old before is legal =
    let was = c.in-Body.ensures.same in
    let asked = c.in-Body.awaited.interim in
    let halves = sym (g.met.L.Link.taken_aside c.put_interim.new.link) ∙ c.put_interim.ensures.aside
    ∙ g.met.L.Link.taken_aside c.args.link.now in
    let puts = subst (λ (x : ReceivedState). g.L.Sink.written c.put_interim.new.link
    ≡ append_known (g.L.Sink.written c.args.link.now) (interim_of (asked && not x.interim))) was
    c.in_ok-put_interim-in-Body.ensures.says in
    let out = subst (λ (x : ReceivedState). c.put_interim.new.self ≡ record x { interim = x.interim || asked }) was
    c.in_ok-put_interim-in-Body.ensures.out in
    let more = serving-interim start _ old before _ _ (link_state g.L.Source g.L.Sink c.put_interim.new.link) _ _ _
    asked is (body-asks _ _ c.in-Body.awaited c.in-Body.ensures.says)
    (ap (λ (i : Intake). i.taken) halves) (ap (λ (i : Intake). i.ended) halves) puts
    (TakesNotes-same _ _ (ap (λ (i : Intake). i.notes) c.put_interim.ensures.aside)) out in
    let kept = sym (g.met.L.Link.written_aside c.take-in-Body.new.link) ∙ c.take-in-Body.ensures.aside
    ∙ g.met.L.Link.written_aside c.put_interim.new.link in
    goes_on-stopped start _ old before _ _ _ _ _ _ _ c.from_residual-in_err-take-in-Body.ensures.1
    (λ fault is_fault items end whole. serving-untaken start _ old before fault _ _ _ _ _ items end more legal
    c.in_err-take-in-Body.ensures.untaken (ap (λ (o : Output). o.written) kept)
    (TakesNotes-same _ _ (ap (λ (o : Output). o.notes) kept))
    (subst (λ (x : ReceivedState). Items x.held items end) c.in_err-take-in-Body.ensures.failed whole)
    (subst (λ (x : ReceivedState). AreWaiting x.held x.interim) (sym out)
    (body-waits _ c.args.self.now.received.held c.args.self.now.received.interim c.in-Body.awaited
    c.in-Body.ensures.says c.requires.interim)))

pub returns-in_ok-take-in-Body-clause-goes_on : goal.returns-in_ok-take-in-Body-clause-goes_on
returns-in_ok-take-in-Body-clause-goes_on g c start old before is legal =
    let was = c.in-Body.ensures.same in
    let asked = c.in-Body.awaited.interim in
    let halves = sym (g.met.L.Link.taken_aside c.put_interim.new.link) ∙ c.put_interim.ensures.aside
    ∙ g.met.L.Link.taken_aside c.args.link.now in
    let puts = subst (λ (x : ReceivedState). g.L.Sink.written c.put_interim.new.link
    ≡ append_known (g.L.Sink.written c.args.link.now) (interim_of (asked && not x.interim))) was
    c.in_ok-put_interim-in-Body.ensures.says in
    let out = subst (λ (x : ReceivedState). c.put_interim.new.self ≡ record x { interim = x.interim || asked }) was
    c.in_ok-put_interim-in-Body.ensures.out in
    let more = serving-interim start _ old before _ _ (link_state g.L.Source g.L.Sink c.put_interim.new.link) _ _ _
    asked is (body-asks _ _ c.in-Body.awaited c.in-Body.ensures.says)
    (ap (λ (i : Intake). i.taken) halves) (ap (λ (i : Intake). i.ended) halves) puts
    (TakesNotes-same _ _ (ap (λ (i : Intake). i.notes) c.put_interim.ensures.aside)) out in
    let t = c.in_ok-take-in-Body.ensures.taken in
    let kept = sym (g.met.L.Link.written_aside c.take-in-Body.new.link) ∙ c.take-in-Body.ensures.aside
    ∙ g.met.L.Link.written_aside c.put_interim.new.link in
    let open_ = open-ended c.args.self.now.received c.in-Body.ensures.says.open_ in (
      serving-takes start _ old before _ _ _ _ _ _ more t (ap (λ (o : Output). o.written) kept)
          (TakesNotes-same _ _ (ap (λ (o : Output). o.notes) kept)),
      subst (λ (n : ℕ). work_left c.take-in-Body.new.self < n) (ap (λ (x : ReceivedState). work_left x) out)
          (work-takes c.put_interim.new.self c.take-in-Body.new.self _ _ _ t
          (ap (λ (x : ReceivedState). x.ended) out ∙ open_)),
    )

pub returns-in_err-put_interim-in-Request-clause-goes_on : goal.returns-in_err-put_interim-in-Request-clause-goes_on
returns-in_err-put_interim-in-Request-clause-goes_on g c start old before is legal =
    let cause : OnPutFault c.from_residual-in_err-put_interim-in-Request.result
    (Rose (g.L.Sink.count c.args.link.now) (g.L.Sink.count c.put_interim-in-Request.new.link)) = search rules in
    let e = c.in_err-put_interim-in-Request.ensures in
    let was = c.in-Request.ensures.same in
    let halves = sym (g.met.L.Link.taken_aside c.put_interim-in-Request.new.link)
    ∙ c.put_interim-in-Request.ensures.aside ∙ g.met.L.Link.taken_aside c.args.link.now in
    let puts = subst (λ (x : ReceivedState). (part : List ℕ)
    × IsPrefix part (interim_of (c.in-Request.first.interim && not x.interim))
    × (g.L.Sink.written c.put_interim-in-Request.new.link ≡ append_known (g.L.Sink.written c.args.link.now) part)) was
    e.says in
    goes_on-stopped start _ old before _ _ _ _ _ _ _ c.from_residual-in_err-put_interim-in-Request.ensures.1
    (λ fault is_fault items end whole. serving-unput start _ old before fault _ _ _ _ _ c.in-Request.first.interim items
    end is legal (next-asks _ _ c.in-Request.first c.in-Request.ensures.says) (ap (λ (i : Intake). i.taken) halves) puts
    (TakesNotes-same _ _ (ap (λ (i : Intake). i.notes) c.put_interim-in-Request.ensures.aside))
    (subst (λ (x : ReceivedState). Items x.held items end) (e.kept ∙ was) whole)
    (on_read-put c.from_residual-in_err-put_interim-in-Request.result _ _ fault cause is_fault))

pub answer_next-requires-clause-interim : goal.answer_next-requires-clause-interim
answer_next-requires-clause-interim g c κs within =
    let was = c.in-Request.ensures.same in
    let out = subst (λ (x : ReceivedState). c.put_interim-in-Request.new.self
    ≡ record x { interim = x.interim || c.in-Request.first.interim }) was c.in_ok-put_interim-in-Request.ensures.out in
    ap (λ (x : ReceivedState). x.interim) out
    ∙ next-out _ c.args.self.now.received c.in-Request.first c.in-Request.ensures.says c.requires.interim

pub returns-in_ok-put_interim-in-Request-clause-goes_on : goal.returns-in_ok-put_interim-in-Request-clause-goes_on
returns-in_ok-put_interim-in-Request-clause-goes_on g c start old before is legal =
    let was = c.in-Request.ensures.same in
    let asked = c.in-Request.first.interim in
    let halves = sym (g.met.L.Link.taken_aside c.put_interim-in-Request.new.link)
    ∙ c.put_interim-in-Request.ensures.aside ∙ g.met.L.Link.taken_aside c.args.link.now in
    let puts = subst (λ (x : ReceivedState). g.L.Sink.written c.put_interim-in-Request.new.link
    ≡ append_known (g.L.Sink.written c.args.link.now) (interim_of (asked && not x.interim))) was
    c.in_ok-put_interim-in-Request.ensures.says in
    let out = subst (λ (x : ReceivedState). c.put_interim-in-Request.new.self
    ≡ record x { interim = x.interim || asked }) was c.in_ok-put_interim-in-Request.ensures.out in
    let more = serving-interim start _ old before _ _ (link_state g.L.Source g.L.Sink c.put_interim-in-Request.new.link)
    _ _ _ asked is (next-asks _ _ c.in-Request.first c.in-Request.ensures.says)
    (ap (λ (i : Intake). i.taken) halves) (ap (λ (i : Intake). i.ended) halves) puts
    (TakesNotes-same _ _ (ap (λ (i : Intake). i.notes) c.put_interim-in-Request.ensures.aside)) out in
    goes_on-from start _ old before (work_left c.put_interim-in-Request.new.self) (work_left c.args.self.now.received) _
    _ _ _ _ (ap (λ (x : ReceivedState). work_left x) out) (c.answer_next.ensures.goes_on start old before more legal)
