-- What opening a store again that was begun leaves, by the lemmas of `Placing`.
use Rattle.std.proofs.Common.{◌≡◌, ◌∙◌, inl, inr, true, List, [], ◌++◌, ap, refl, subst, sym}
use Rattle.std.specs.Prelude.{Err}
use Rattle.std.proofs.lemmas.Bool.{both_ways}
use Rattle.std.proofs.lemmas.List.{append-nil}
use Rattle.farm_disk.specs.Images.{DiskState, IsSettled, LeavesOnly}
use Rattle.farm_entry.specs.Legal.{IsLegal}
use Rattle.farm_entry.specs.declared.entry.Entry.{Entry}
use Rattle.farm_journal.specs.Opened.{OnRead, OpeningCause}
use Rattle.farm_journal.specs.ReadsOnly.{ReadsOnly}
use Rattle.farm_journal.specs.declared.fault.OpeningFault.{OpeningFault}
use Rattle.farm_journal.specs.declared.layout.TheConstants.{FIRST_GATE}
use Rattle.farm_store.specs.Opened.{IsMissedBy}
use Rattle.farm_store.specs.State.{IsStored}
use Rattle.journal_follow.specs.Inside.{Mends, on_disk}
use Rattle.journal_follow.specs.declared.fault.FollowFault.TheVariants as fault
use Rattle.journal_follow.proofs.Openings.{unborn-read}
use Rattle.journal_follow.proofs.Placing.{begun-again, begun-decided, begun-just, begun-mends, begun-not_damaged}
use Rattle.journal_follow.proofs.Showing.{just, with_pending}
use Rattle.journal_follow.proofs.place.reopen.Goals as goal

pub returns-then-is_history-clause-place : goal.returns-then-is_history-clause-place
returns-then-is_history-clause-place g c =
    let f = c.in-Ok.ensures in
    let store = c.in-Ok.store in
    record {
      legal = subst IsLegal (sym (ap (λ (l : List Entry). store.history ++ l) f.decided ∙ append-nil store.history)) f.legal;
      stored = λ t. subst (λ (l : List Entry). IsStored store.history l (g.D.Disk.told store.disk)) (sym f.decided)
          (f.stored (sym f.same ∙ t));
    }

pub returns-then-is_history-clause-mends : goal.returns-then-is_history-clause-mends
returns-then-is_history-clause-mends g c =
    let f = c.in-Ok.ensures in
    let store = c.in-Ok.store in
    begun-decided g.D.Disk c.args.before c.args.begun.entries c.args.begun.disk store.disk
    (with_pending store.history store.pending) c.requires.0 f.same c.requires.1 f.only f.never_falls
    (inr (sym c.history.ensures.value ∙ c.is_history.ensures.0 c.if-is_history.true)) f.decided

pub returns-else-is_history-clause-place : goal.returns-else-is_history-clause-place
returns-else-is_history-clause-place g c = (
  c.requires.0,
  λ t.
      let u = sym c.in-Ok.ensures.same ∙ (ap g.D.Disk.tells (sym c.into_disk-disk.ensures.disk) ∙ t) in
      begun-again c.args.begun.entries (g.D.Disk.told c.args.begun.disk) (g.D.Disk.told c.into_disk-disk.result)
      (c.requires.1 u)
      (subst (λ (d : g.row.D.Denot). ReadsOnly (g.D.Disk.told c.args.begun.disk) (g.D.Disk.told d))
      (sym c.into_disk-disk.ensures.disk) (c.in-Ok.ensures.only u)),
)

pub returns-else-is_history-clause-mends : goal.returns-else-is_history-clause-mends
returns-else-is_history-clause-mends g c =
    let f = c.in-Ok.ensures in
    let store = c.in-Ok.store in
    let H = c.args.begun.entries in
    let a = c.args.begun.disk in
    subst (λ (d : g.row.D.Denot). Mends c.args.before (Err (fault.Damaged FIRST_GATE))
    (on_disk g.D.Disk.tells g.D.Disk.told g.D.Disk.count a [] H)
    (on_disk g.D.Disk.tells g.D.Disk.told g.D.Disk.count d [] H)) (sym c.into_disk-disk.ensures.disk)
    (begun-mends g.D.Disk c.args.before H a store.disk (fault.Damaged FIRST_GATE) c.requires.0 f.same c.requires.1 f.only
    tt
    (λ t. both_ways _ c.if-is_history.false (c.is_history.ensures.1 (c.history.ensures.value
    ∙ begun-just H (g.D.Disk.told a) (g.D.Disk.told store.disk) (c.requires.1 t) (f.only t) store.history (f.answers t))))
    tt f.never_falls)

pub returns-in-Unborn-clause-place : goal.returns-in-Unborn-clause-place
returns-in-Unborn-clause-place g c = λ t.
    let u = sym c.in-Err.ensures.same ∙ t in
    let old = g.D.Disk.told c.args.begun.disk in
    let new = g.D.Disk.told c.in-Err.disk in
    unborn-read old new (c.in-Err.ensures.only u)
    (subst (λ (f : OpeningFault). OnRead f (g.D.Disk.tells c.args.begun.disk ≡ true → IsSettled new)) c.in-Unborn.is
    c.in-Err.ensures.settled u)
    (subst (λ (f : OpeningFault). IsMissedBy old.bytes f) c.in-Unborn.is (c.in-Err.ensures.answers u))

pub returns-in-Unborn-clause-mends : goal.returns-in-Unborn-clause-mends
returns-in-Unborn-clause-mends g c =
    begun-decided g.D.Disk c.args.before c.args.begun.entries c.args.begun.disk c.in-Err.disk (just []) c.requires.0
    c.in-Err.ensures.same c.requires.1 c.in-Err.ensures.only c.in-Err.ensures.never_falls (inl refl) refl

pub returns-in-StoreFault-clause-place : goal.returns-in-StoreFault-clause-place
returns-in-StoreFault-clause-place g c = (
  c.requires.0,
  λ t.
      let u = sym c.in-Err.ensures.same ∙ t in
      begun-again c.args.begun.entries (g.D.Disk.told c.args.begun.disk) (g.D.Disk.told c.in-Err.disk) (c.requires.1 u)
      (c.in-Err.ensures.only u),
)

pub returns-in-StoreFault-clause-mends : goal.returns-in-StoreFault-clause-mends
returns-in-StoreFault-clause-mends g c =
    let cause = subst (λ (f : OpeningFault). OpeningCause f (g.D.Disk.count c.args.begun.disk)
    (g.D.Disk.count c.in-Err.disk)) c.in-StoreFault.is c.in-Err.ensures.cause in
    begun-mends g.D.Disk c.args.before c.args.begun.entries c.args.begun.disk c.in-Err.disk
    (fault.StoreFault c.args.before c.in-StoreFault.after) c.requires.0 c.in-Err.ensures.same c.requires.1
    c.in-Err.ensures.only tt (λ t. tt) (refl, cause.1, cause.2) c.in-Err.ensures.never_falls

pub returns-in-Damaged-clause-place : goal.returns-in-Damaged-clause-place
returns-in-Damaged-clause-place g c = (
  c.requires.0,
  λ t.
      let u = sym c.in-Err.ensures.same ∙ t in
      begun-again c.args.begun.entries (g.D.Disk.told c.args.begun.disk) (g.D.Disk.told c.in-Err.disk) (c.requires.1 u)
      (c.in-Err.ensures.only u),
)

pub returns-in-Damaged-clause-mends : goal.returns-in-Damaged-clause-mends
returns-in-Damaged-clause-mends g c =
    begun-mends g.D.Disk c.args.before c.args.begun.entries c.args.begun.disk c.in-Err.disk
    (fault.Damaged c.in-Damaged.at) c.requires.0 c.in-Err.ensures.same c.requires.1
    c.in-Err.ensures.only tt (λ t.
    begun-not_damaged c.args.begun.entries (g.D.Disk.told c.args.begun.disk) (g.D.Disk.told c.in-Err.disk)
    (c.requires.1 t) (c.in-Err.ensures.only t) c.in-Damaged.at
    (subst (λ (f : OpeningFault). IsMissedBy (g.D.Disk.told c.args.begun.disk).bytes f) c.in-Damaged.is
    (c.in-Err.ensures.answers t)))
    tt c.in-Err.ensures.never_falls

pub returns-in-Memory-clause-place : goal.returns-in-Memory-clause-place
returns-in-Memory-clause-place g c = (
  c.requires.0,
  λ t.
      let u = sym c.in-Err.ensures.same ∙ t in
      begun-again c.args.begun.entries (g.D.Disk.told c.args.begun.disk) (g.D.Disk.told c.in-Err.disk) (c.requires.1 u)
      (c.in-Err.ensures.only u),
)

pub returns-in-Memory-clause-mends : goal.returns-in-Memory-clause-mends
returns-in-Memory-clause-mends g c =
    begun-mends g.D.Disk c.args.before c.args.begun.entries c.args.begun.disk c.in-Err.disk
    fault.Memory c.requires.0 c.in-Err.ensures.same c.requires.1
    c.in-Err.ensures.only tt (λ t. tt) tt c.in-Err.ensures.never_falls
