-- What each end of a write leaves.
use Rattle.std.proofs.Common.{◌∙◌, inr, ℕ, List, [], ◌∷◌, ◌++◌, ap, subst}
use Rattle.farm_disk.specs.Images.{LeavesOnly}
use Rattle.farm_journal.specs.State.{IsBeforeOrAfter, IsHeld}
use Rattle.farm_store.proofs.Ahead.{some-test, unwritten-still}
use Rattle.farm_store.proofs.Spellings.{record-fits}
use Rattle.farm_store.proofs.recording.write_new.Goals as goal

pub returns-in_default-clause-wrote : goal.returns-in_default-clause-wrote
returns-in_default-clause-wrote g c =
    unwritten-still g.D.Disk.tells g.D.Disk.told c.args.journal.now c.requires.open

pub append-requires-clause-payload : goal.append-requires-clause-payload
append-requires-clause-payload g c =
    record-fits c.args.entries.now c.deref.result.now (c.deref.ensures.value ∙ c.in-Ok.ensures.spelled)
    (some-test c.args.entries.now c.is_empty.result c.is_empty.ensures c.if-is_empty.false)
    (c.requires.fits c.in-Ok.ensures.readable)

pub returns-in-Ok-append-clause-wrote : goal.returns-in-Ok-append-clause-wrote
returns-in-Ok-append-clause-wrote g c =
    let ps = c.args.journal.now.payloads in
    let is = c.deref.ensures.value ∙ c.in-Ok.ensures.spelled in
    inr (record {
      some = some-test c.args.entries.now c.is_empty.result c.is_empty.ensures c.if-is_empty.false;
      spelled = c.in-Ok.ensures.readable;
      payloads = c.in-Ok-append.ensures.appended ∙ ap (λ (l : List ℕ). ps ++ l ∷ []) is;
      idle = c.in-Ok-append.ensures.idle;
      held = λ t. subst (λ (l : List ℕ). IsHeld (ps ++ l ∷ []) (g.D.Disk.told c.append.new.self.disk)) is
          (c.in-Ok-append.ensures.acknowledged t);
      images = λ t. subst (λ (l : List ℕ). LeavesOnly (g.D.Disk.told c.args.journal.now.disk)
          (g.D.Disk.told c.append.new.self.disk) (IsBeforeOrAfter ps l)) is (c.append.ensures.any_moment t);
    })
