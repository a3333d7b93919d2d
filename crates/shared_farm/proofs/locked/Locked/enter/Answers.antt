use Rattle.std.proofs.Common.{List, arith, ◌≡◌, ◌⊎◌, ◌∷◌, [], ap, subst, length, ◌∙◌}
use Rattle.farm_store.specs.Answering.{as_batch}
use Rattle.farm_store.specs.Faults.{OnAnswered}
use Rattle.farm_store.specs.State.{StoreState}
use Rattle.farm_store.specs.declared.asking.Ask.{Ask}
use Rattle.farm_store.proofs.Sizes.{batch-size}
use Rattle.common_types.specs.Counts.{Rose}
use Rattle.common_types.specs.declared.row.Row.{Row}
use Rattle.shared_farm.specs.Answered.{FitRecord, GoesOn}
use Rattle.shared_farm.specs.Logs.{LockedState}
use Rattle.shared_farm.proofs.ByCommands.{by-says}
use Rattle.shared_farm.proofs.Recorded.{cause-entered, goes-on_by, says-decided, says-fit, says-grown}
use Rattle.shared_farm.proofs.Logging.{locked-logged}
use Rattle.shared_farm.proofs.Resting.{came-on}
use Rattle.shared_farm.proofs.locked.Locked.enter.Goals as goal

-- nothing is pending then, or the disk failed
decided : (g : _) (c : goal.After-tell g) → (c.enter-result.new.self.pending ≡ [])
    ⊎ Rose (g.D.Disk.count c.self.inside.store.disk) (g.D.Disk.count c.enter-result.new.self.disk)
decided g c =
    let e = c.enter-result.ensures in
    let old = c.self.inside.store in
    let new = c.enter-result.new.self in
    let first = g.D.Disk.count old.disk in
    let last = g.D.Disk.count new.disk in
    says-decided (record { command = c.args.command.now; at = c.args.at } ∷ [])
    (as_batch e.says.answer) old new first last e.says.says
    (cause-entered e.says.answer c.enter-result.result first last e.says.gives e.cause)

-- and no more than fits one record
fit : (g : _) (c : goal.After-tell g) → FitRecord c.enter-result.new.self.pending
fit g c =
    let e = c.enter-result.ensures in
    let asks : List Ask = record { command = c.args.command.now; at = c.args.at } ∷ [] in
    says-fit asks (as_batch e.says.answer) c.self.inside.store c.enter-result.new.self e.says.says
    (batch-size asks (omega arith)) c.self.invariant.7

pub invariant_of-self : goal.invariant_of-self
invariant_of-self g c =
    let e = c.enter-result.ensures in
    let now = c.post.ensures.posted in
    let logged = locked-logged g.D.Disk g.D.DatedDisk.dated (λ P. OnAnswered c.enter-result.result P)
    c.self.inside.store c.enter-result.new.self
    c.self.inside.log c.tell.new.log e.keeps (decided g c) c.self.invariant.4 c.tell.ensures.told
    c.tell.ensures.moment in (
      ap (λ p. p.board) now,
      ap (λ p. p.posts) now,
      ap (λ p. p.seen) now,
      came-on g.D.Disk g.B.Beginning.begun (λ P. OnAnswered c.enter-result.result P) c.self.inside.store
          c.enter-result.new.self c.self.invariant.3 e.keeps (decided g c)
          (by-says (record { command = c.args.command.now; at = c.args.at } ∷ [])
          (as_batch e.says.answer) c.self.inside.store c.enter-result.new.self e.says.says),
      logged.0,
      logged.1,
      c.self.invariant.6,
      fit g c,
    )

pub returns-clause-goes_on : goal.returns-clause-goes_on
returns-clause-goes_on g c =
    let e = c.enter-result.ensures in
    let count = g.D.Disk.count in
    let old = c.self.inside.store in
    let new = c.enter-result.new.self in
    subst (λ (s : StoreState g.row.D.Denot). GoesOn count s new)
    (ap (λ (l : LockedState g.row.D.Denot). l.store) c.self.view_is)
    (goes-on_by count old new c.history.ensures.legal c.post.ensures.legal e.keeps.longer
    (says-grown (record { command = c.args.command.now; at = c.args.at } ∷ [])
    (as_batch e.says.answer) old new e.says.says) (decided g c) e.keeps.never_falls (fit g c))

pub returns-clause-told : goal.returns-clause-told
returns-clause-told g c =
    let new = c.enter-result.new.self in
    let row : Row = record { entries = length new.history; moment = g.D.DatedDisk.dated new.disk } in
    (row ∷ [], c.tell.ensures.told ∙ ap (λ (l : LockedState g.row.D.Denot). row ∷ l.log) c.self.view_is)
