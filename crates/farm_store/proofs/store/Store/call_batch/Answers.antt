-- What a batch came to, by the lemmas of `Missed` and `Sizes`.
use Rattle.std.proofs.Common.{List, sym, subst}
use Rattle.std.specs.Prelude.{Err}
use Rattle.farm_entry.specs.declared.answer.Answer.{Answer}
use Rattle.farm_entry.specs.declared.entry.Entry.{Entry}
use Rattle.farm_store.specs.Answering.{AreAnswers, BatchSays}
use Rattle.farm_store.specs.Faults.{HasCallCause}
use Rattle.farm_store.specs.declared.asking.CallFault.{CallFault}
use Rattle.farm_store.proofs.Missed.{batch-missed, cause-missed}
use Rattle.farm_store.proofs.Sizes.{batch-size}
use Rattle.farm_store.proofs.store.Store.call_batch.Goals as goal

pub settle-requires : goal.settle-requires
settle-requires g c = record { fits = batch-size c.args.asks.now c.requires.few }

pub returns-in-Err-clause-says : goal.returns-in-Err-clause-says
returns-in-Err-clause-says g c =
    subst (λ (f : CallFault). BatchSays c.args.asks.now (Err f) c.args.self.now c.settle.new.self) (sym c.from.ensures)
    (batch-missed c.args.asks.now (λ (given : List Answer) (H : List Entry). AreAnswers H c.args.asks.now given)
    c.in-Err.fault c.args.self.now c.settle.new.self c.in-Err.ensures.says)

pub returns-in-Err-clause-cause : goal.returns-in-Err-clause-cause
returns-in-Err-clause-cause g c =
    let first = g.D.Disk.count c.args.self.now.disk in
    let last = g.D.Disk.count c.settle.new.self.disk in
    subst (λ (f : CallFault). HasCallCause {T = List Answer} (Err f) first last) (sym c.from.ensures)
    (cause-missed (List Answer) (List Answer) c.in-Err.fault first last c.in-Err.ensures.cause)
