-- What a call came to whose refusal is an error, by the lemmas of `Missed`.
use Rattle.std.proofs.Common.{sym, subst}
use Rattle.std.specs.Prelude.{Err, OnOk}
use Rattle.farm_entry.specs.declared.answer.Answer.{Answer}
use Rattle.farm_entry.specs.declared.reply.Reply.{Reply}
use Rattle.farm_store.specs.Answering.{CallSays, as_batch}
use Rattle.farm_store.specs.Faults.{HasCallCause}
use Rattle.farm_store.specs.Keeping.{KeepsStore}
use Rattle.farm_store.specs.declared.asking.CallFault.{CallFault}
use Rattle.farm_store.proofs.Missed.{call-missed, cause-missed, keeps-call}
use Rattle.farm_store.proofs.store.Store.call.Goals as goal

pub returns-in-Err-clause-says : goal.returns-in-Err-clause-says
returns-in-Err-clause-says g c =
    subst (λ (f : CallFault). CallSays c.args.command.now c.args.at (Err f) c.args.self.now c.answer.new.self)
    (sym c.from.ensures)
    (call-missed c.args.command.now c.args.at c.in-Err.fault c.args.self.now c.answer.new.self c.in-Err.ensures.says)

pub returns-in-Err-clause-keeps : goal.returns-in-Err-clause-keeps
returns-in-Err-clause-keeps g c =
    subst (λ (f : CallFault). KeepsStore g.D.Disk (λ (P : Type 0). OnOk (as_batch (Err f)) P) c.args.self.now
    c.answer.new.self) (sym c.from.ensures)
    (keeps-call Answer g.D.Disk c.args.self.now c.answer.new.self c.in-Err.fault c.in-Err.ensures.keeps)

pub returns-in-Err-clause-cause : goal.returns-in-Err-clause-cause
returns-in-Err-clause-cause g c =
    let first = g.D.Disk.count c.args.self.now.disk in
    let last = g.D.Disk.count c.answer.new.self.disk in
    subst (λ (f : CallFault). HasCallCause {T = Reply} (Err f) first last) (sym c.from.ensures)
    (cause-missed Answer Reply c.in-Err.fault first last c.in-Err.ensures.cause)
