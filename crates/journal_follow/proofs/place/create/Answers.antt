-- What each end of a creation leaves, by the lemmas of `Placing`.
use Rattle.std.proofs.Common.{◌≡◌, ◌≤◌, ◌++◌, length, [], ◌∙◌, List, ℕ, true, true≢false, ap, refl, sym, subst, arith}
use Rattle.std.proofs.lemmas.Bool.{false_from_ne_true}
use Rattle.std.proofs.lemmas.List.{append-nil}
use Rattle.entry_codec.specs.Spelling.{spelling}
use Rattle.common_types.specs.Counts.{last_count}
use Rattle.farm_disk.specs.Images.{EachImage, LeavesOnly}
use Rattle.farm_disk.proofs.Moments.{leaves_only-now, leaves_only-rested}
use Rattle.farm_entry.specs.Legal.{IsLegal}
use Rattle.farm_entry.specs.declared.entry.Entry.{Entry}
use Rattle.farm_journal.specs.Created.{CreatingCause, IsUnborn, OnCreatingMemory}
use Rattle.farm_journal.specs.Layout.{is_unborn}
use Rattle.farm_journal.specs.declared.fault.CreateFault.{CreateFault}
use Rattle.farm_store.specs.Founded.{IsRefusedBy, IsUnbornOr}
use Rattle.farm_store.specs.State.{IsStored}
use Rattle.farm_store.specs.declared.asking.TheConstants.{MAX_RECORD_BYTES}
use Rattle.journal_follow.specs.Shown.{ShowsLeft}
use Rattle.journal_follow.proofs.Legals.{legal-may}
use Rattle.journal_follow.proofs.Placing.{created-moment, held-is, rested-begun, rested-unborn, unborn-left, unborn-test}
use Rattle.journal_follow.proofs.Rises.{rose-on}
use Rattle.journal_follow.proofs.Showing.{just, with_pending}
use Rattle.journal_follow.proofs.place.create.Goals as goal

pub create-requires : goal.create-requires
create-requires g c =
    subst (λ (l : List Entry). length (spelling l) ≤ MAX_RECORD_BYTES) (sym c.requires.history) c.requires.fits

pub returns-in-Ok-clause-place : goal.returns-in-Ok-clause-place
returns-in-Ok-clause-place g c =
    let f = c.in-Ok.ensures in
    let H = c.in-Ok.store.history in
    record {
      legal = subst IsLegal (sym (ap (λ (l : List Entry). H ++ l) f.decided ∙ append-nil H ∙ f.history)) c.create.ensures.legal;
      stored = λ t. subst (λ (l : List Entry). IsStored l c.in-Ok.store.pending (g.D.Disk.told c.in-Ok.store.disk))
          (sym f.history)
          (subst (λ (l : List Entry). IsStored c.args.farm.history l (g.D.Disk.told c.in-Ok.store.disk)) (sym f.decided)
          (f.stored (sym f.same ∙ t)));
    }

pub returns-in-Ok-clause-puts : goal.returns-in-Ok-clause-puts
returns-in-Ok-clause-puts g c =
    let f = c.in-Ok.ensures in
    let store = c.in-Ok.store in
    let entries : List Entry = c.args.entries in
    let same : store.history ≡ entries = f.history ∙ c.requires.history in
    record {
      same = f.same;
      stores = (
        legal-may entries (subst IsLegal c.requires.history c.create.ensures.legal),
        held-is store.history store.pending entries [] same f.decided,
      );
      any_moment = λ t.
          let none = c.requires.unborn t in
          created-moment c.args.farm.history (g.D.Disk.told c.args.disk) (g.D.Disk.told store.disk)
          (with_pending store.history store.pending)
          (ap (λ (l : List Entry). store.history ++ l) f.decided ∙ append-nil store.history ∙ f.history)
          (f.any_moment t (unborn-test (g.D.Disk.told c.args.disk).bytes none.reads) none.images);
      cause = tt;
      never_falls = f.never_falls;
    }

pub returns-in-AlreadyBorn-clause-place : goal.returns-in-AlreadyBorn-clause-place
returns-in-AlreadyBorn-clause-place g c = λ t.
    let u = sym c.in-Err.ensures.same ∙ t in
    absurd (true≢false (sym (unborn-test (g.D.Disk.told c.args.disk).bytes (c.requires.unborn u).reads)
    ∙ subst (λ (f : CreateFault). IsRefusedBy (g.D.Disk.told c.args.disk).bytes f) c.in-AlreadyBorn.is
    (c.in-Err.ensures.answers u)))

pub returns-in-AlreadyBorn-clause-puts : goal.returns-in-AlreadyBorn-clause-puts
returns-in-AlreadyBorn-clause-puts g c =
    let born : g.D.Disk.tells c.args.disk ≡ true → ⊥ =
    λ u. true≢false (sym (unborn-test (g.D.Disk.told c.args.disk).bytes (c.requires.unborn u).reads)
    ∙ subst (λ (f : CreateFault). IsRefusedBy (g.D.Disk.told c.args.disk).bytes f) c.in-AlreadyBorn.is
    (c.in-Err.ensures.answers u)) in
    record {
      same = c.in-Err.ensures.same;
      stores = (false_from_ne_true (g.D.Disk.tells c.args.disk) born, refl, refl);
      any_moment = λ u. absurd (born u);
      cause = tt;
      never_falls = c.in-Err.ensures.never_falls;
    }

pub returns-in-StoreFault-clause-place : goal.returns-in-StoreFault-clause-place
returns-in-StoreFault-clause-place g c = (
  subst IsLegal c.requires.history c.create.ensures.legal,
  λ t.
      let v = sym c.looked_at-disk.ensures.same ∙ t in
      let u = sym c.in-Err.ensures.same ∙ v in
      let none = c.requires.unborn u in
      let a = g.D.Disk.told c.args.disk in
      let b = g.D.Disk.told c.in-Err.disk in
      rested-begun c.args.entries b (g.D.Disk.told c.looked_at-disk.result.0) (c.looked_at-disk.ensures.still v)
      (c.looked_at-disk.ensures.sound v)
      (subst (λ (l : List Entry). EachImage b.steps (IsUnbornOr l)) c.requires.history
      (leaves_only-now a b (IsUnbornOr c.args.farm.history)
      (c.in-Err.ensures.any_moment u (unborn-test a.bytes none.reads) none.images))),
)

pub returns-in-StoreFault-clause-puts : goal.returns-in-StoreFault-clause-puts
returns-in-StoreFault-clause-puts g c =
    let cause = subst (λ (f : CreateFault). CreatingCause f (g.D.Disk.count c.args.disk) (g.D.Disk.count c.in-Err.disk))
    c.in-StoreFault.is c.in-Err.ensures.cause in
    let low = c.in-Err.ensures.never_falls in
    let more = c.looked_at-disk.ensures.never_falls in
    let most : g.D.Disk.count c.looked_at-disk.result.0 ≤ last_count = omega (arith, c.looked_at-disk.ensures.count) in
    let a = g.D.Disk.told c.args.disk in
    let b = g.D.Disk.told c.in-Err.disk in
    let entries : List Entry = c.args.entries in
    let new = with_pending [] entries in
    record {
      same = c.looked_at-disk.ensures.same ∙ c.in-Err.ensures.same;
      stores = (legal-may entries (subst IsLegal c.requires.history c.create.ensures.legal), refl);
      any_moment = λ u.
          let none = c.requires.unborn u in
          leaves_only-rested a b (g.D.Disk.told c.looked_at-disk.result.0) (ShowsLeft (just []) new)
          (created-moment c.args.farm.history a b new (sym c.requires.history)
          (c.in-Err.ensures.any_moment u (unborn-test a.bytes none.reads) none.images))
          (c.looked_at-disk.ensures.still (c.in-Err.ensures.same ∙ u));
      cause = (
        refl,
        c.looked_at-disk.ensures.count,
        rose-on (g.D.Disk.count c.args.disk) (g.D.Disk.count c.in-Err.disk)
            (g.D.Disk.count c.looked_at-disk.result.0) more most cause.2,
      );
      never_falls = omega (arith, low, more);
    }

pub returns-in-Memory-clause-place : goal.returns-in-Memory-clause-place
returns-in-Memory-clause-place g c = λ t.
    let v = sym c.looked_at-disk-in-Memory.ensures.same ∙ t in
    let u = sym c.in-Err.ensures.same ∙ v in
    let none = c.requires.unborn u in
    let a = g.D.Disk.told c.args.disk in
    let b = g.D.Disk.told c.in-Err.disk in
    let memory = subst (λ (f : CreateFault). OnCreatingMemory f (g.D.Disk.tells c.args.disk ≡ true
    → is_unborn a.bytes ≡ true → EachImage a.steps IsUnborn → EachImage b.steps IsUnborn)) c.in-Memory.is
    c.in-Err.ensures.memory in
    rested-unborn b (g.D.Disk.told c.looked_at-disk-in-Memory.result.0) (c.looked_at-disk-in-Memory.ensures.still v)
    (c.looked_at-disk-in-Memory.ensures.sound v) (memory u (unborn-test a.bytes none.reads) none.images)

pub returns-in-Memory-clause-puts : goal.returns-in-Memory-clause-puts
returns-in-Memory-clause-puts g c =
    let low = c.in-Err.ensures.never_falls in
    let more = c.looked_at-disk-in-Memory.ensures.never_falls in
    let a = g.D.Disk.told c.args.disk in
    let b = g.D.Disk.told c.in-Err.disk in
    record {
      same = c.looked_at-disk-in-Memory.ensures.same ∙ c.in-Err.ensures.same;
      stores = refl;
      any_moment = λ u.
          let none = c.requires.unborn u in
          let memory = subst (λ (f : CreateFault). OnCreatingMemory f (g.D.Disk.tells c.args.disk ≡ true
          → is_unborn a.bytes ≡ true → EachImage a.steps IsUnborn → LeavesOnly a b IsUnborn)) c.in-Memory.is
          c.in-Err.ensures.memory_moment in
          leaves_only-rested a b (g.D.Disk.told c.looked_at-disk-in-Memory.result.0) (ShowsLeft (just []) (just []))
          (unborn-left a b (memory u (unborn-test a.bytes none.reads) none.images))
          (c.looked_at-disk-in-Memory.ensures.still (c.in-Err.ensures.same ∙ u));
      cause = tt;
      never_falls = omega (arith, low, more);
    }
