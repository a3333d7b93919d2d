-- What an entered command came to, by the lemmas of `Entered` and `Missed`.
use Rattle.std.proofs.Common.{List, [], ◌∷◌, Option, sym, subst}
use Rattle.std.specs.Prelude.{Result, Err}
use Rattle.farm_entry.specs.declared.entry.Entry.{Entry}
use Rattle.farm_entry.specs.declared.lease.LeasedRun.{LeasedRun}
use Rattle.farm_entry.specs.declared.refusal.Refusal.{Refusal}
use Rattle.farm_store.specs.Answering.{IsSettled}
use Rattle.farm_store.specs.Entering.{Enters, IsEntered}
use Rattle.farm_store.specs.Faults.{HasCallCause, OnAnswered}
use Rattle.farm_store.specs.Keeping.{KeepsStore}
use Rattle.farm_store.specs.declared.asking.Ask.{Ask}
use Rattle.farm_store.specs.declared.asking.CallFault.{CallFault}
use Rattle.farm_store.proofs.Entered.{enters-missed, enters-refused, enters-run}
use Rattle.farm_store.proofs.Missed.{cause-missed, keeps-enter}
use Rattle.farm_store.proofs.store.Store.enter.Goals as goal

pub returns-in-Ok-Ok-clause-says : goal.returns-in-Ok-Ok-clause-says
returns-in-Ok-Ok-clause-says g c =
    let ask : Ask = record { command = c.args.command.now; at = c.args.at } in
    enters-run c.args.command.now c.args.at c.args.self.now c.settle.new.self c.in-Ok-Ok.run'
    (subst (λ (given : Result (Option LeasedRun) Refusal).
    IsSettled (ask ∷ []) (λ (H : List Entry). IsEntered H ask given)
    c.args.self.now c.settle.new.self) c.in-Ok-Ok.field-0-is c.in-Ok-Ok.ensures.says)

pub returns-in-Ok-Err-clause-says : goal.returns-in-Ok-Err-clause-says
returns-in-Ok-Err-clause-says g c =
    let ask : Ask = record { command = c.args.command.now; at = c.args.at } in
    enters-refused c.args.command.now c.args.at c.args.self.now c.settle.new.self c.in-Ok-Err.refusal
    (subst (λ (given : Result (Option LeasedRun) Refusal).
    IsSettled (ask ∷ []) (λ (H : List Entry). IsEntered H ask given)
    c.args.self.now c.settle.new.self) c.in-Ok-Err.field-0-is c.in-Ok-Err.ensures.says)

pub returns-in-Err-clause-says : goal.returns-in-Err-clause-says
returns-in-Err-clause-says g c =
    subst (λ (f : CallFault). Enters c.args.command.now c.args.at (Err f) c.args.self.now c.settle.new.self)
    (sym c.from.ensures)
    (enters-missed c.args.command.now c.args.at c.args.self.now c.settle.new.self
    (λ (given : Result (Option LeasedRun) Refusal) (H : List Entry).
    IsEntered H (record { command = c.args.command.now; at = c.args.at }) given) c.in-Err.fault c.in-Err.ensures.says)

pub returns-in-Err-clause-keeps : goal.returns-in-Err-clause-keeps
returns-in-Err-clause-keeps g c =
    subst (λ (f : CallFault).
    KeepsStore g.D.Disk (λ (P : Type 0). OnAnswered {T = Option LeasedRun} (Err f) P) c.args.self.now
    c.settle.new.self) (sym c.from.ensures)
    (keeps-enter (Result (Option LeasedRun) Refusal) g.D.Disk c.args.self.now c.settle.new.self
    (Option LeasedRun) c.in-Err.fault c.in-Err.ensures.keeps)

pub returns-in-Err-clause-cause : goal.returns-in-Err-clause-cause
returns-in-Err-clause-cause g c =
    let first = g.D.Disk.count c.args.self.now.disk in
    let last = g.D.Disk.count c.settle.new.self.disk in
    subst (λ (f : CallFault). HasCallCause {T = Option LeasedRun} (Err f) first last) (sym c.from.ensures)
    (cause-missed (Result (Option LeasedRun) Refusal) (Option LeasedRun) c.in-Err.fault first
    last c.in-Err.ensures.cause)
