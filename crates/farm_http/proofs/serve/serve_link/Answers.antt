use Rattle.std.proofs.Common.{List, ℕ, Ok, Err, Option, subst, refl, le_refl, arith}
use Rattle.connection_laws.specs.Moments.{GivenBy}
use Rattle.connection_laws.specs.Progress.{progress_from}
use Rattle.connection_laws.specs.declared.served.Why.{Why}
use Rattle.http_requests.specs.Items.{Items}
use Rattle.farm_http.specs.Callers.{state_of}
use Rattle.farm_http.specs.Connection.{GoesOn, work_left}
use Rattle.link_io.specs.Links.{link_state}
use Rattle.farm_http.proofs.Endings.{serves-further}
use Rattle.farm_http.proofs.Serving.{front-start, serving-start}
use Rattle.farm_http.proofs.serve.serve_link.Goals as goal

pub loop-ended-init : goal.loop-ended-init
loop-ended-init g c = record {
  ready = c.requires.ready;
  empty = c.new-connection.ensures.empty;
  legal = c.requires.legal;
  serving =
      serving-start _ _ _ _ c.new-connection.result.received c.new-connection.result.requests
      (front-start c.args.caller.now.pass c.args.caller.now.reader) refl c.new-connection.ensures.nothing
      c.new-connection.ensures.none;
  never_falls = le_refl _;
}

pub returns-in-Err-clause-serves : goal.returns-in-Err-clause-serves
returns-in-Err-clause-serves g c =
    let caller = c.args.caller.now in
    let start = progress_from caller.pass.seen caller.reader caller.pass.faults in
    let before = link_state g.L.Source g.L.Sink c.args.link.now in
    let e = c.every_input_has_items.ensures in
    c.in-Err.ensures.goes_on start (state_of caller) before c.loop-ended.invariant.serving c.requires.legal e.0 e.1
    (subst (λ (l : List ℕ). Items l e.0 e.1) c.held.ensures e.2)

pub returns-in-Err-clause-follows : goal.returns-in-Err-clause-follows
returns-in-Err-clause-follows g c =
    let caller = c.args.caller.now in
    let start = progress_from caller.pass.seen caller.reader caller.pass.faults in
    let before = link_state g.L.Source g.L.Sink c.args.link.now in
    let e = c.every_input_has_items.ensures in
    let f = serves-further (Err c.in-Err.fault) _ _ _ _ _ _ _ _ _
    (c.in-Err.ensures.goes_on start (state_of caller) before c.loop-ended.invariant.serving c.requires.legal e.0 e.1
    (subst (λ (l : List ℕ). Items l e.0 e.1) c.held.ensures e.2)) in
    record { longer = f.within.seen; counted = f.within.totals; more = f.within.faults }

pub returns-in-Err-clause-read : goal.returns-in-Err-clause-read
returns-in-Err-clause-read g c =
    let caller = c.args.caller.now in
    let start = progress_from caller.pass.seen caller.reader caller.pass.faults in
    let before = link_state g.L.Source g.L.Sink c.args.link.now in
    let e = c.every_input_has_items.ensures in
    let f = serves-further (Err c.in-Err.fault) _ _ _ _ _ _ _ _ _
    (c.in-Err.ensures.goes_on start (state_of caller) before c.loop-ended.invariant.serving c.requires.legal e.0 e.1
    (subst (λ (l : List ℕ). Items l e.0 e.1) c.held.ensures e.2)) in
    f.counted

pub returns-in-Some-clause-serves : goal.returns-in-Some-clause-serves
returns-in-Some-clause-serves g c =
    let caller = c.args.caller.now in
    let start = progress_from caller.pass.seen caller.reader caller.pass.faults in
    let before = link_state g.L.Source g.L.Sink c.args.link.now in
    subst (λ (o : Option Why). GoesOn start (GivenBy g.C.Clock c.args.service.now.clock.now g.D.Disk.count)
    (state_of caller) before (work_left c.loop-ended.connection.received) (Ok o) (state_of c.serve_next.new.caller)
    (link_state g.L.Source g.L.Sink c.serve_next.new.link) c.serve_next.new.self.received
    c.serve_next.new.self.requests) c.in-Some.is
    (c.in-Ok.ensures.goes_on start (state_of caller) before c.loop-ended.invariant.serving c.requires.legal)

pub returns-in-Some-clause-follows : goal.returns-in-Some-clause-follows
returns-in-Some-clause-follows g c =
    let caller = c.args.caller.now in
    let start = progress_from caller.pass.seen caller.reader caller.pass.faults in
    let before = link_state g.L.Source g.L.Sink c.args.link.now in
    let f = serves-further (Ok _) _ _ _ _ _ _ _ _ _
    (subst (λ (o : Option Why). GoesOn start (GivenBy g.C.Clock c.args.service.now.clock.now g.D.Disk.count)
    (state_of caller) before (work_left c.loop-ended.connection.received) (Ok o) (state_of c.serve_next.new.caller)
    (link_state g.L.Source g.L.Sink c.serve_next.new.link) c.serve_next.new.self.received
    c.serve_next.new.self.requests) c.in-Some.is
    (c.in-Ok.ensures.goes_on start (state_of caller) before c.loop-ended.invariant.serving c.requires.legal)) in
    record { longer = f.within.seen; counted = f.within.totals; more = f.within.faults }

pub returns-in-Some-clause-read : goal.returns-in-Some-clause-read
returns-in-Some-clause-read g c =
    let caller = c.args.caller.now in
    let start = progress_from caller.pass.seen caller.reader caller.pass.faults in
    let before = link_state g.L.Source g.L.Sink c.args.link.now in
    let f = serves-further (Ok _) _ _ _ _ _ _ _ _ _
    (subst (λ (o : Option Why). GoesOn start (GivenBy g.C.Clock c.args.service.now.clock.now g.D.Disk.count)
    (state_of caller) before (work_left c.loop-ended.connection.received) (Ok o) (state_of c.serve_next.new.caller)
    (link_state g.L.Source g.L.Sink c.serve_next.new.link) c.serve_next.new.self.received
    c.serve_next.new.self.requests) c.in-Some.is
    (c.in-Ok.ensures.goes_on start (state_of caller) before c.loop-ended.invariant.serving c.requires.legal)) in
    f.counted

pub loop-ended-preserved : goal.loop-ended-preserved
loop-ended-preserved g c =
    let caller = c.args.caller.now in
    let start = progress_from caller.pass.seen caller.reader caller.pass.faults in
    let before = link_state g.L.Source g.L.Sink c.args.link.now in
    let gone = subst (λ (o : Option Why). GoesOn start (GivenBy g.C.Clock c.args.service.now.clock.now g.D.Disk.count)
    (state_of caller) before (work_left c.loop-ended.connection.received) (Ok o) (state_of c.serve_next.new.caller)
    (link_state g.L.Source g.L.Sink c.serve_next.new.link) c.serve_next.new.self.received
    c.serve_next.new.self.requests) c.in_default.is
    (c.in-Ok.ensures.goes_on start (state_of caller) before c.loop-ended.invariant.serving c.requires.legal) in
    record {
      ready = c.serve_next.ensures.ready;
      empty = c.in-Ok.ensures.empty;
      legal = c.serve_next.ensures.legal;
      serving = gone.0;
      never_falls = omega (arith, c.serve_next.ensures.never_falls, c.loop-ended.invariant.never_falls);
    }

pub loop-ended-smaller : goal.loop-ended-smaller
loop-ended-smaller g c =
    let caller = c.args.caller.now in
    let start = progress_from caller.pass.seen caller.reader caller.pass.faults in
    let before = link_state g.L.Source g.L.Sink c.args.link.now in
    let gone = subst (λ (o : Option Why). GoesOn start (GivenBy g.C.Clock c.args.service.now.clock.now g.D.Disk.count)
    (state_of caller) before (work_left c.loop-ended.connection.received) (Ok o) (state_of c.serve_next.new.caller)
    (link_state g.L.Source g.L.Sink c.serve_next.new.link) c.serve_next.new.self.received
    c.serve_next.new.self.requests) c.in_default.is
    (c.in-Ok.ensures.goes_on start (state_of caller) before c.loop-ended.invariant.serving c.requires.legal) in
    gone.1
