use Rattle.std.proofs.Common.{List, ap, subst}
use Rattle.farm_store.specs.declared.asking.Ask.{Ask}
use Rattle.shared_farm.specs.Turns.{IsTurn}
use Rattle.farm_http.specs.Batches.{BatchState}
use Rattle.farm_http.proofs.batch.Batch.ask.Goals as goal

pub returns-clause-turn : goal.returns-clause-turn
returns-clause-turn g c =
    subst (λ (l : List Ask). IsTurn g.D.Disk.count l c.call_batch.result.0 c.args.pass.now c.call_batch.new.pass)
    (ap (λ (b : BatchState). b.asks) c.self.view_is) c.call_batch.ensures.turn
