-- What a call with the asks of several callers came to, by the lemmas of `Missed`.
use Rattle.std.proofs.Common.{◌∙◌, List, ap, map, sym, subst}
use Rattle.std.specs.Prelude.{Err}
use Rattle.farm_entry.specs.declared.entry.Entry.{Entry}
use Rattle.farm_store.specs.Answering.{BatchSays}
use Rattle.farm_store.specs.Faults.{HasCallCause}
use Rattle.farm_store.specs.Together.{AreGiven, IsGiven, all_asks}
use Rattle.farm_store.specs.declared.asking.CallFault.{CallFault}
use Rattle.farm_store.specs.declared.asking.Part.{Part}
use Rattle.farm_store.proofs.Missed.{batch-missed, cause-missed}
use Rattle.farm_store.proofs.store.Store.call_together.Goals as goal

pub returns-in-Ok-clause-says : goal.returns-in-Ok-clause-says
returns-in-Ok-clause-says g c =
    subst (λ (given : List Part). IsGiven c.args.parts.now given c.args.self.now c.settle.new.self)
    (sym (c.parts-1.given.1.1 (sym c.in-Ok.ensures.stays.0))) c.in-Ok.ensures.says

pub returns-in-Ok-clause-asks : goal.returns-in-Ok-clause-asks
returns-in-Ok-clause-asks g c =
    ap (map (λ (part : Part). part.asks)) (c.parts-1.given.1.1 (sym c.in-Ok.ensures.stays.0)) ∙ c.in-Ok.ensures.stays.1

pub returns-in-Err-clause-says : goal.returns-in-Err-clause-says
returns-in-Err-clause-says g c =
    let asks = all_asks c.args.parts.now in
    let Given = λ (given : Unit {0}) (H : List Entry). AreGiven H c.args.parts.now c.settle.new.asked.parts.now in
    subst (λ (f : CallFault). BatchSays asks (Err f) c.args.self.now c.settle.new.self) (sym c.from.ensures)
    (batch-missed asks Given c.in-Err.fault c.args.self.now c.settle.new.self c.in-Err.ensures.says)

pub returns-in-Err-clause-asks : goal.returns-in-Err-clause-asks
returns-in-Err-clause-asks g c =
    ap (map (λ (part : Part). part.asks)) (c.parts-1.given.1.1 (sym c.in-Err.ensures.stays.0))
    ∙ c.in-Err.ensures.stays.1

pub returns-in-Err-clause-cause : goal.returns-in-Err-clause-cause
returns-in-Err-clause-cause g c =
    let first = g.D.Disk.count c.args.self.now.disk in
    let last = g.D.Disk.count c.settle.new.self.disk in
    subst (λ (f : CallFault). HasCallCause {T = Unit {0}} (Err f) first last) (sym c.from.ensures)
    (cause-missed (Unit {0}) (Unit {0}) c.in-Err.fault first last c.in-Err.ensures.cause)
