-- What storing entries behind a history comes to, by the lemmas of `Placing`.
use Rattle.std.proofs.Common.{◌≡◌, ℕ, ◌++◌, ◌+◌, ◌≤◌, ◌∙◌, ap, length, refl, subst, sym, arith}
use Rattle.std.specs.Prelude.{Result, Ok, Err}
use Rattle.std.proofs.lemmas.List.{length-append}
use Rattle.farm_journal.specs.Faults.{HasCause}
use Rattle.farm_journal.specs.declared.fault.JournalFault.{JournalFault}
use Rattle.farm_store.specs.Admitted.{Admits}
use Rattle.farm_store.proofs.AtAdmission.{admitted-of, refused-of}
use Rattle.journal_follow.specs.declared.fault.FollowFault.TheVariants as fault
use Rattle.journal_follow.proofs.Legals.{may-by}
use Rattle.journal_follow.proofs.Placing.{store-open, store-puts, stores-all, stores-none, stores-torn}
use Rattle.journal_follow.proofs.Takings.{may-bounded}
use Rattle.journal_follow.proofs.place.go_on.Goals as goal

pub returns-in-Ok-Ok-clause-place : goal.returns-in-Ok-Ok-clause-place
returns-in-Ok-Ok-clause-place g c =
    store-open g.D.Disk c.args.before c.args.store c.admit_all.new.self c.admit_all.ensures.keeps

pub returns-in-Ok-Err-clause-place : goal.returns-in-Ok-Err-clause-place
returns-in-Ok-Err-clause-place g c =
    store-open g.D.Disk c.args.before c.args.store c.admit_all.new.self c.admit_all.ensures.keeps

pub returns-in-Err-StoreFault-clause-place : goal.returns-in-Err-StoreFault-clause-place
returns-in-Err-StoreFault-clause-place g c =
    store-open g.D.Disk c.args.before c.args.store c.admit_all.new.self c.admit_all.ensures.keeps

pub returns-in-Err-Memory-clause-place : goal.returns-in-Err-Memory-clause-place
returns-in-Err-Memory-clause-place g c =
    store-open g.D.Disk c.args.before c.args.store c.admit_all.new.self c.admit_all.ensures.keeps

pub returns-in-Ok-Ok-clause-puts : goal.returns-in-Ok-Ok-clause-puts
returns-in-Ok-Ok-clause-puts g c =
    let says = admitted-of c.args.entries.now c.args.store c.admit_all.new.self c.in-Ok-Ok.field-0 c.in-Ok-Ok.field-0-0
    c.in-Ok-Ok.field-0-is c.in-Ok-Ok.ensures.admits in
    store-puts g.D.Disk c.args.before c.args.store c.admit_all.new.self c.admit_all.ensures.keeps c.args.place
    c.args.entries.now (Ok tt)
    (stores-all g.D.Disk c.args.before c.args.store c.admit_all.new.self c.admit_all.ensures.keeps
    (g.D.Disk.tells c.args.store.disk) c.args.place c.args.entries.now says) tt

pub returns-in-Ok-Err-clause-puts : goal.returns-in-Ok-Err-clause-puts
returns-in-Ok-Err-clause-puts g c =
    let says = refused-of c.args.entries.now c.args.store c.admit_all.new.self c.in-Ok-Err.field-0 c.in-Ok-Err.index
    c.in-Ok-Err.field-0-is c.in-Ok-Err.ensures.admits in
    store-puts g.D.Disk c.args.before c.args.store c.admit_all.new.self c.admit_all.ensures.keeps c.args.place
    c.args.entries.now (Err (fault.Foreign (c.args.place + c.in-Ok-Err.index))) (
      stores-none g.D.Disk c.args.before c.args.store c.admit_all.new.self c.admit_all.ensures.keeps says.1,
      c.in-Ok-Err.index,
      refl,
      says.0,
    ) tt

pub returns-in-Err-StoreFault-clause-puts : goal.returns-in-Err-StoreFault-clause-puts
returns-in-Err-StoreFault-clause-puts g c =
    let says = subst (λ (f : JournalFault). Admits c.args.entries.now (Err f) c.args.store c.admit_all.new.self)
    c.in-Err-StoreFault.field-0-is c.in-Err-StoreFault.ensures.admits in
    let cause = subst (λ (f : JournalFault). HasCause {T = Result (Unit {0}) ℕ} (Err f)
    (g.D.Disk.count c.args.store.disk) (g.D.Disk.count c.admit_all.new.self.disk)) c.in-Err-StoreFault.field-0-is
    c.in-Err-StoreFault.ensures.cause in
    store-puts g.D.Disk c.args.before c.args.store c.admit_all.new.self c.admit_all.ensures.keeps c.args.place
    c.args.entries.now (Err (fault.StoreFault c.args.before c.in-Err-StoreFault.after))
    (stores-torn g.D.Disk c.args.before c.args.store c.admit_all.new.self c.admit_all.ensures.keeps
    (g.D.Disk.tells c.args.store.disk) c.args.place c.args.before c.in-Err-StoreFault.after c.args.entries.now says)
    (refl, cause.1, cause.2)

pub returns-in-Err-Memory-clause-puts : goal.returns-in-Err-Memory-clause-puts
returns-in-Err-Memory-clause-puts g c =
    let says = subst (λ (f : JournalFault). Admits c.args.entries.now (Err f) c.args.store c.admit_all.new.self)
    c.in-Err-Memory.field-0-is c.in-Err-Memory.ensures.admits in
    store-puts g.D.Disk c.args.before c.args.store c.admit_all.new.self c.admit_all.ensures.keeps c.args.place
    c.args.entries.now (Err fault.Memory)
    (stores-none g.D.Disk c.args.before c.args.store c.admit_all.new.self c.admit_all.ensures.keeps says) tt

pub overflow_cast-result : goal.overflow_cast-result
overflow_cast-result g c =
    let H = c.args.store.history in
    let stuck = (refused-of c.args.entries.now c.args.store c.admit_all.new.self c.in-Ok-Err.field-0 c.in-Ok-Err.index
    c.in-Ok-Err.field-0-is c.in-Ok-Err.ensures.admits).0 in
    let few = may-bounded (H ++ stuck.before) (may-by (H ++ stuck.before) stuck.fits) in
    let at = stuck.at in
    omega (arith, few, length-append H stuck.before, at)

pub overflow_add-result : goal.overflow_add-result
overflow_add-result g c =
    let H = c.args.store.history in
    let stuck = (refused-of c.args.entries.now c.args.store c.admit_all.new.self c.in-Ok-Err.field-0 c.in-Ok-Err.index
    c.in-Ok-Err.field-0-is c.in-Ok-Err.ensures.admits).0 in
    let few = may-bounded (H ++ stuck.before) (may-by (H ++ stuck.before) stuck.fits) in
    let at = stuck.at in
    let place = c.requires.place in
    omega (arith, few, length-append H stuck.before, at, place)
