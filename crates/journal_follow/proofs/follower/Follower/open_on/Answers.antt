-- What opening a follower finds, by the lemmas of `Openings`.
use Rattle.std.proofs.Common.{◌≡◌, ◌∙◌, true, List, [], ◌++◌, ap, sym, subst}
use Rattle.std.proofs.lemmas.List.{append-nil}
use Rattle.farm_disk.specs.Images.{IsSettled}
use Rattle.farm_entry.specs.Legal.{IsLegal}
use Rattle.farm_entry.specs.declared.entry.Entry.{Entry}
use Rattle.farm_journal.specs.Opened.{OnRead}
use Rattle.farm_journal.specs.declared.fault.OpeningFault.{OpeningFault}
use Rattle.farm_store.specs.Opened.{IsMissedBy}
use Rattle.farm_store.specs.State.{IsStored}
use Rattle.journal_follow.proofs.Legals.{legal-may}
use Rattle.journal_follow.proofs.Openings.{is-opened, is-unborn, unborn-read}
use Rattle.journal_follow.proofs.follower.Follower.open_on.Goals as goal

pub invariant_of-result : goal.invariant_of-result
invariant_of-result g c =
    let store = c.in-Ok.store in
    let f = c.in-Ok.ensures in
    record {
      legal = subst IsLegal (sym (ap (λ (l : List Entry). store.history ++ l) f.decided ∙ append-nil store.history)) f.legal;
      stored = λ t. subst (λ (l : List Entry). IsStored store.history l (g.D.Disk.told store.disk)) (sym f.decided)
          (f.stored (sym f.same ∙ t));
    }

pub returns-in-Ok-clause-opens : goal.returns-in-Ok-clause-opens
returns-in-Ok-clause-opens g c =
    let f = c.in-Ok.ensures in
    is-opened g.D.Disk.tells g.D.Disk.told g.D.Disk.count c.args.disk c.in-Ok.store f.same f.answers f.decided f.stored
    f.only f.never_falls

pub returns-in-Ok-clause-legal : goal.returns-in-Ok-clause-legal
returns-in-Ok-clause-legal g c = legal-may c.in-Ok.store.history c.in-Ok.ensures.legal

pub invariant_of-result-in-Unborn : goal.invariant_of-result-in-Unborn
invariant_of-result-in-Unborn g c = λ t.
    let u = sym c.in-Err.ensures.same ∙ t in
    let old = g.D.Disk.told c.args.disk in
    let new = g.D.Disk.told c.in-Err.disk in
    unborn-read old new (c.in-Err.ensures.only u)
    (subst (λ (f : OpeningFault). OnRead f (g.D.Disk.tells c.args.disk ≡ true → IsSettled new)) c.in-Unborn.is
    c.in-Err.ensures.settled u)
    (subst (λ (f : OpeningFault). IsMissedBy old.bytes f) c.in-Unborn.is (c.in-Err.ensures.answers u))

pub returns-in-Unborn-clause-opens : goal.returns-in-Unborn-clause-opens
returns-in-Unborn-clause-opens g c =
    let old = g.D.Disk.told c.args.disk in
    let new = g.D.Disk.told c.in-Err.disk in
    is-unborn g.D.Disk.tells g.D.Disk.told g.D.Disk.count c.args.disk c.in-Err.disk c.in-Err.ensures.same
    (λ t. subst (λ (f : OpeningFault). IsMissedBy old.bytes f) c.in-Unborn.is (c.in-Err.ensures.answers t))
    c.in-Err.ensures.only
    (subst (λ (f : OpeningFault). OnRead f (g.D.Disk.tells c.args.disk ≡ true → IsSettled new)) c.in-Unborn.is
    c.in-Err.ensures.settled)
    c.in-Err.ensures.never_falls

pub returns-in_default-clause-opens : goal.returns-in_default-clause-opens
returns-in_default-clause-opens g c = record {
  same = c.in-Err.ensures.same;
  born = c.in_default.not-Unborn;
  cause = c.in-Err.ensures.answers;
  counts = c.in-Err.ensures.cause;
  only = c.in-Err.ensures.only;
  never_falls = c.in-Err.ensures.never_falls;
}
