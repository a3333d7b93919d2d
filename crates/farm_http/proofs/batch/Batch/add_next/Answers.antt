use Rattle.std.proofs.Common.{rules, ℕ, ◌≡◌, ◌-◌, ◌∙◌, ⊎_elim, true, false, Result, Ok, ap, subst, sym, take, drop, length}
use Rattle.std.proofs.lemmas.Bool.{cases_Bool}
use Rattle.std.proofs.lemmas.List.{take_rest}
use Rattle.connection_laws.specs.Kinds.{commands, kind_by, kind_of}
use Rattle.connection_laws.specs.Moments.{GivenBy}
use Rattle.farm_store.specs.declared.asking.Ask.{Ask}
use Rattle.farm_entry.specs.declared.command.Command.{Command}
use Rattle.farm_wire.specs.declared.fault.WireFault.{WireFault}
use Rattle.http_requests.specs.Next.{IsNextFor, Says, item_in}
use Rattle.http_requests.specs.declared.next.Next.{Next}
use Rattle.http_words.specs.declared.endpoint.Endpoint.{Endpoint}
use Rattle.http_words.specs.declared.endpoint.Endpoint.TheVariants as endpoint
use Rattle.http_words.specs.declared.fault.Fault.{Fault}
use Rattle.farm_http.specs.Batches.{BatchState, IsBatch}
use Rattle.farm_http.proofs.Gathering.{batch-gathers}
use Rattle.farm_http.proofs.batch.Batch.add_next.Goals as goal

pub returns-in-Ok-clause-batch : goal.returns-in-Ok-clause-batch
returns-in-Ok-clause-batch g c =
    let gives = GivenBy g.C.Clock c.args.service.now.clock.now g.D.Disk.count in
    let complete = c.args.complete in
    let held = c.args.held.now in
    let old = c.args.self.now in
    let new = c.add.new.self in
    let request = c.in-Request.request in
    let ask : Ask = record { command = c.in-Ok.command; at = c.now-at.result } in
    let size : c.self.inside.size ≡ old.size = ap (λ (b : BatchState). b.size) c.self.view_is in
    let rest = take (length held - c.self.inside.size) (drop c.self.inside.size held) in
    let next : IsNextFor complete rest request =
    subst (λ (n : Next). Says complete rest n) c.in-Request.is c.next_of-next.ensures.says in
    let at_once : request.interim ≡ false = search rules in
    let asks : request.asks ≡ Ok (endpoint.Command c.in-Ok-Command.route) = search rules in
    let asked : kind_of (item_in rest request) ≡ commands (Ok c.in-Ok.command) =
    ap (λ (a : Result Endpoint Fault). kind_by a (item_in rest request).body) asks
    ∙ ap (λ (x : Result Command WireFault). commands x) c.in-Ok.ensures.read in
    ⊎_elim
    (λ (done : c.add.result ≡ true).
    batch-gathers gives complete held rest old new request ask c.requires.batch c.requires.open c.requires.room next
    (take_rest held c.self.inside.size ∙ ap (λ (k : ℕ). drop k held) size) at_once
    (record { command = asked; moment = (c.now-at.ensures.shown, c.now-at.ensures.told) }) (c.add.ensures.added done))
    (λ (kept : c.add.result ≡ false).
    subst (λ (b : BatchState). IsBatch gives complete held b) (sym (c.add.ensures.kept kept)) c.requires.batch)
    (cases_Bool c.add.result)
