use Rattle.std.proofs.Common.{ℕ, ◌≡◌, ◌∙◌, refl, Bool, List, length, Result, Ok, Err, ap, sym, subst}
use Rattle.std.proofs.lemmas.Result.{err_from_is_err_and}
use Rattle.std.specs.Prelude.{slice_range}
use Rattle.common_types.proofs.Rows.{AreAmong-refl}
use Rattle.connection_laws.specs.Answers.{Response}
use Rattle.connection_laws.specs.Kinds.{commands, kind_by}
use Rattle.connection_laws.specs.Moments.{GivenBy}
use Rattle.farm_entry.specs.declared.command.Command.{Command}
use Rattle.farm_store.specs.declared.asking.Ask.{Ask}
use Rattle.farm_wire.specs.Reading.{body_reading}
use Rattle.farm_wire.specs.declared.fault.WireFault.{WireFault}
use Rattle.http_requests.specs.Next.{item_in}
use Rattle.http_words.specs.declared.endpoint.Endpoint.{Endpoint}
use Rattle.http_words.specs.declared.fault.Fault.{Fault}
use Rattle.farm_http.specs.Batches.{BatchState, IsBatch, all_answered}
use Rattle.farm_http.specs.Bytes.{PutSays, request_bytes}
use Rattle.farm_http.specs.Fronts.{halves}
use Rattle.farm_http.specs.Received.{is_complete}
use Rattle.farm_http.specs.declared.front.Answered.{Answered}
use Rattle.farm_http.proofs.BatchSteps.{batch-put_err, batch-put_ok, batch-says}
use Rattle.farm_http.proofs.Gathering.{batch-one, batch-some}
use Rattle.farm_http.proofs.Single.{answered-all, answered-one, batch-shown, next-bytes, no-answer, ok-answer, one_answered, put-as_err, unasked-says, unread-says}
use Rattle.farm_http.proofs.kept.Kept.answer_commands.Goals as goal

pub returns-in_err-answer_misread-in-Err-clause-says : goal.returns-in_err-answer_misread-in-Err-clause-says
returns-in_err-answer_misread-in-Err-clause-says g c = λ prog w.
    let p = err_from_is_err_and c.from_residual.result c.from_residual.ensures.1 in
    let first = c.args.first.now in
    let r = c.args.received.now in
    let put = c.in_err-answer_misread-in-Err.ensures in
    let before = g.L.Sink.written c.args.link.now in
    let last = g.L.Sink.written c.answer_misread.new.link in
    unasked-says (GivenBy g.C.Clock c.args.service.now.clock.now g.D.Disk.count) prog (is_complete r) r.held r.interim
    (halves g.L.Sink c.args.link.now c.answer_misread.new.link) c.args.pass.now first c.requires.next
    c.requires.interim w c.args.route c.in-Err.fault c.requires.asks
    (λ ne. subst (λ (l : List ℕ). body_reading c.args.route (slice_range l first.body first.size) ≡ Err c.in-Err.fault)
    c.held-held.ensures (c.in-Err.ensures.refused ne)) c.from_residual.result
    (no-answer (one_answered first) c.from_residual.result p.0 p.1)
    (λ ne. let q = put.misread ne in (q.0, put-as_err _ before last c.from_residual.result p.0 p.1 q.1))
    (λ e. put-as_err _ before last c.from_residual.result p.0 p.1 (put.unread e))

pub returns-in-Err-clause-says : goal.returns-in-Err-clause-says
returns-in-Err-clause-says g c = λ prog w.
    let first = c.args.first.now in
    let r = c.args.received.now in
    let put = c.in_ok-answer_misread-in-Err.ensures in
    unasked-says (GivenBy g.C.Clock c.args.service.now.clock.now g.D.Disk.count) prog (is_complete r) r.held r.interim
    (halves g.L.Sink c.args.link.now c.answer_misread.new.link) c.args.pass.now first c.requires.next
    c.requires.interim w c.args.route
    c.in-Err.fault c.requires.asks
    (λ ne. subst (λ (l : List ℕ). body_reading c.args.route (slice_range l first.body first.size) ≡ Err c.in-Err.fault)
    c.held-held.ensures (c.in-Err.ensures.refused ne)) (Ok c.one.result)
    (ok-answer (one_answered first) c.one.result
    (answered-one c.one.result first c.one.ensures.requests c.one.ensures.size c.one.ensures.closes))
    put.misread put.unread

pub returns-in_err-put_response-clause-says : goal.returns-in_err-put_response-clause-says
returns-in_err-put_response-clause-says g c = λ prog w.
    let result = c.from_residual-in_err-put_response.result in
    let p = err_from_is_err_and result c.from_residual-in_err-put_response.ensures.1 in
    let first = c.args.first.now in
    let r = c.args.received.now in
    let before = g.L.Sink.written c.args.link.now in
    let last = g.L.Sink.written c.put_response.new.link in
    unread-says (GivenBy g.C.Clock c.args.service.now.clock.now g.D.Disk.count) prog (is_complete r) r.held r.interim
    (halves g.L.Sink c.args.link.now c.put_response.new.link) c.args.pass.now first c.requires.next c.requires.interim w
    c.args.route c.requires.asks result
    (no-answer (one_answered first) result p.0 p.1)
    (subst (λ (x : Response). PutSays (request_bytes first x) before last result) c.no_memory.ensures
    (put-as_err _ before last result p.0 p.1 c.in_err-put_response.ensures.says))

pub returns-then-not-begin-clause-says : goal.returns-then-not-begin-clause-says
returns-then-not-begin-clause-says g c = λ prog w.
    let first = c.args.first.now in
    let r = c.args.received.now in
    let before = g.L.Sink.written c.args.link.now in
    let last = g.L.Sink.written c.put_response.new.link in
    let one = c.one-then-not-begin in
    unread-says (GivenBy g.C.Clock c.args.service.now.clock.now g.D.Disk.count) prog (is_complete r) r.held r.interim
    (halves g.L.Sink c.args.link.now c.put_response.new.link) c.args.pass.now first c.requires.next c.requires.interim w
    c.args.route c.requires.asks (Ok one.result)
    (ok-answer (one_answered first) one.result (answered-one one.result first one.ensures.requests one.ensures.size
    one.ensures.closes))
    (subst (λ (x : Response). PutSays (request_bytes first x) before last (Ok one.result)) c.no_memory.ensures
    c.in_ok-put_response.ensures.says)

pub gather-requires-clause-batch : goal.gather-requires-clause-batch
gather-requires-clause-batch g c κs within =
    let first = c.args.first.now in
    let r = c.args.received.now in
    let gives = GivenBy g.C.Clock c.args.service.now.clock.now g.D.Disk.count in
    let ask : Ask = record { command = c.in-Ok.command; at = c.now-at.result } in
    let read : body_reading c.args.route (slice_range r.held first.body first.size) ≡ Ok c.in-Ok.command =
    subst (λ (l : List ℕ). body_reading c.args.route (slice_range l first.body first.size) ≡ Ok c.in-Ok.command)
    c.held-held.ensures c.in-Ok.ensures.read in
    let whole = batch-one gives (is_complete r) r.held first ask c.begin.new.self c.requires.next
    (next-bytes (is_complete r) r.held first c.requires.next)
    (record {
      command =
          ap (λ (a : Result Endpoint Fault). kind_by a (item_in r.held first).body) c.requires.asks
          ∙ ap (λ (x : Result Command WireFault). commands x) read;
      moment = (c.now-at.ensures.shown, c.now-at.ensures.told);
    }) (c.begin.ensures c.if-not-begin.false) in
    subst (λ (b : Bool). IsBatch gives b c.held-held.result.now c.begin.new.self) (sym c.is_complete.ensures)
    (subst (λ (l : List ℕ). IsBatch gives (is_complete r) l c.begin.new.self) (sym c.held-held.ensures) whole)

pub answer_batch-requires-clause-some : goal.answer_batch-requires-clause-some
answer_batch-requires-clause-some g c κs within = batch-some _ _ _ c.gather.new.self c.gather.ensures

pub returns-in_err-answer_batch-clause-says : goal.returns-in_err-answer_batch-clause-says
returns-in_err-answer_batch-clause-says g c = λ prog w.
    let result = c.from_residual-in_err-answer_batch.result in
    let p = err_from_is_err_and result c.from_residual-in_err-answer_batch.ensures.1 in
    let r = c.args.received.now in
    let gives = GivenBy g.C.Clock c.args.service.now.clock.now g.D.Disk.count in
    let b = c.gather.new.self in
    let is = subst (λ (l : List ℕ). IsBatch gives (is_complete r) l b) c.held-held.ensures
    (subst (λ (x : Bool). IsBatch gives x c.held-held.result.now b) c.is_complete.ensures c.gather.ensures) in
    let says = c.in_err-answer_batch.ensures.says in
    batch-says g.D.Disk.count gives prog (is_complete r) r.held r.interim
    (halves g.L.Sink c.args.link.now c.answer_batch.new.link) c.args.pass.now c.answer_batch.new.pass b
    (λ disk. record { disk = disk; is = refl }) c.answer_batch.ensures.aside is
    (c.requires.interim ∙ batch-shown gives (is_complete r) r.held b c.args.first.now is c.requires.next) w
    c.in_err-answer_batch.ensures.faults result (no-answer (all_answered b) result p.0 p.1)
    (batch-put_err g.D.Disk.count b.asks b.requests c.args.pass.now c.answer_batch.new.pass
    (g.L.Sink.written c.args.link.now) (g.L.Sink.written c.answer_batch.new.link) result p.0 _ p.1 says)

pub returns-clause-says : goal.returns-clause-says
returns-clause-says g c = λ prog w.
    let r = c.args.received.now in
    let gives = GivenBy g.C.Clock c.args.service.now.clock.now g.D.Disk.count in
    let b = c.gather.new.self in
    let is = subst (λ (l : List ℕ). IsBatch gives (is_complete r) l b) c.held-held.ensures
    (subst (λ (x : Bool). IsBatch gives x c.held-held.result.now b) c.is_complete.ensures c.gather.ensures) in
    let d : Answered = record { requests = length c.asks.result.now; size = c.size.result; closes = c.closes.result } in
    let same = c.in_ok-answer_batch.ensures.same in
    batch-says g.D.Disk.count gives prog (is_complete r) r.held r.interim
    (halves g.L.Sink c.args.link.now c.answer_batch.new.link) c.args.pass.now c.answer_batch.new.pass b
    (λ disk. record { disk = disk; is = refl }) c.answer_batch.ensures.aside is
    (c.requires.interim ∙ batch-shown gives (is_complete r) r.held b c.args.first.now is c.requires.next) w
    c.in_ok-answer_batch.ensures.faults (Ok d)
    (ok-answer (all_answered b) d
    (answered-all d b
    (ap (λ (l : List Ask). length l) c.asks.ensures.value ∙ ap (λ (x : BatchState). length x.asks) same)
    (c.size.ensures ∙ ap (λ (x : BatchState). x.size) same)
    (c.closes.ensures ∙ ap (λ (x : BatchState). x.closes) same)))
    (batch-put_ok g.D.Disk.count b.asks b.requests c.args.pass.now c.answer_batch.new.pass
    (g.L.Sink.written c.args.link.now) (g.L.Sink.written c.answer_batch.new.link) d _ c.in_ok-answer_batch.ensures.says)

pub returns-in_err-answer_misread-in-Err-clause-rows : goal.returns-in_err-answer_misread-in-Err-clause-rows
returns-in_err-answer_misread-in-Err-clause-rows g c = AreAmong-refl c.args.pass.now.rows

pub returns-in-Err-clause-rows : goal.returns-in-Err-clause-rows
returns-in-Err-clause-rows g c = AreAmong-refl c.args.pass.now.rows

pub returns-in_err-put_response-clause-rows : goal.returns-in_err-put_response-clause-rows
returns-in_err-put_response-clause-rows g c = AreAmong-refl c.args.pass.now.rows

pub returns-then-not-begin-clause-rows : goal.returns-then-not-begin-clause-rows
returns-then-not-begin-clause-rows g c = AreAmong-refl c.args.pass.now.rows
