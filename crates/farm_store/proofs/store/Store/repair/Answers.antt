-- What a repair keeps.
use Rattle.std.proofs.Common.{◌≡◌, ◌+◌, ◌∙◌, inl}
use Rattle.farm_disk.specs.Images.{moment}
use Rattle.farm_disk.proofs.Moments.{leaves_only-weaker}
use Rattle.farm_journal.specs.Layout.{version_of}
use Rattle.farm_journal.specs.ReadsOnly.{ReadsOnly}
use Rattle.farm_store.specs.State.{IsLeft, IsWithOrWithout}
use Rattle.farm_store.proofs.Calls.{on_ok-always}
use Rattle.farm_store.proofs.Repairs.{repairs-by, repairs-longer}
use Rattle.farm_store.proofs.store.Store.repair.Goals as goal

pub returns-clause-repairs : goal.returns-clause-repairs
returns-clause-repairs g c =
    let said = c.find_out-repaired.ensures in
    repairs-by c.find_out-repaired.result c.args.self.now c.find_out-repaired.new.self said.repaired said.decided
    said.none_recorded said.unrepaired

pub returns-clause-keeps : goal.returns-clause-keeps
returns-clause-keeps g c =
    let old = c.args.self.now in
    let new = c.find_out-repaired.new.self in
    let said = c.find_out-repaired.ensures in
    let result = c.find_out-repaired.result in
    let told = g.D.Disk.told in
    record {
      same = said.same;
      longer = repairs-longer result old new
          (repairs-by result old new said.repaired said.decided said.none_recorded said.unrepaired);
      legal = c.tell.ensures.legal;
      any_moment = λ t. leaves_only-weaker (told old.disk) (told new.disk)
          (IsWithOrWithout old.history old.pending) (IsLeft old new) (λ x before. inl before) (said.any_moment t);
      stored = λ t. c.tell.ensures.stored (said.same ∙ t);
      untouched = λ rests still. on_ok-always result (new.disk ≡ old.disk) (said.idle rests);
      only = λ t zero. on_ok-always result (ReadsOnly (told old.disk) (told new.disk)) (said.only t);
      two_calls = λ t some zero. said.two_calls t some;
      new_version = said.new_version;
      never_falls = said.never_falls;
    }
