-- What a repair leaves of a store, by the lemmas of `Placing`.
use Rattle.std.proofs.Common.{refl, subst}
use Rattle.std.specs.Prelude.{Err}
use Rattle.farm_journal.specs.Faults.{HasCause}
use Rattle.farm_journal.specs.declared.fault.JournalFault.{JournalFault}
use Rattle.farm_store.specs.Answering.{IsUnrepairedBy}
use Rattle.journal_follow.proofs.Placing.{store-mends, store-open, store-unmended}
use Rattle.journal_follow.proofs.place.mend.Goals as goal

pub returns-in-Ok-clause-place : goal.returns-in-Ok-clause-place
returns-in-Ok-clause-place g c =
    store-open g.D.Disk c.args.before c.args.store c.repair.new.self c.repair.ensures.keeps

pub returns-in-Ok-clause-mends : goal.returns-in-Ok-clause-mends
returns-in-Ok-clause-mends g c =
    store-mends g.D.Disk c.args.before c.args.store c.repair.new.self c.repair.ensures.keeps c.in-Ok.ensures.repairs
    c.in-Ok.ensures.keeps.untouched

pub returns-in-Err-StoreFault-clause-place : goal.returns-in-Err-StoreFault-clause-place
returns-in-Err-StoreFault-clause-place g c =
    store-open g.D.Disk c.args.before c.args.store c.repair.new.self c.repair.ensures.keeps

pub returns-in-Err-StoreFault-clause-mends : goal.returns-in-Err-StoreFault-clause-mends
returns-in-Err-StoreFault-clause-mends g c =
    let says = subst (λ (f : JournalFault). IsUnrepairedBy f c.args.store c.repair.new.self)
    c.in-Err-StoreFault.field-0-is c.in-Err-StoreFault.ensures.repairs in
    let cause = subst (λ (f : JournalFault). HasCause {T = Unit {0}} (Err f) (g.D.Disk.count c.args.store.disk)
    (g.D.Disk.count c.repair.new.self.disk)) c.in-Err-StoreFault.field-0-is c.in-Err-StoreFault.ensures.cause in
    store-unmended g.D.Disk c.args.before c.args.store c.repair.new.self c.repair.ensures.keeps c.args.before
    c.in-Err-StoreFault.after says (refl, cause.1, cause.2)
