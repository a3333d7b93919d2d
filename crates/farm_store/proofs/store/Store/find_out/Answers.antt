-- What each end of a repair leaves, by the lemmas of `Repairs`.
use Rattle.std.proofs.Common.{rules, ◌∙◌, ap, refl}
use Rattle.std.specs.Prelude.{IsSome}
use Rattle.farm_journal.proofs.OpeningSteps.{reads-none}
use Rattle.farm_journal.specs.Mended.{payloads_after}
use Rattle.farm_journal.specs.declared.mending.Repaired.{Repaired}
use Rattle.farm_store.proofs.Repairs.{kept-dropped, kept-found, leaves-idle-view, leaves-repair-view, reads-view, some-is}
use Rattle.farm_store.proofs.store.Store.find_out.Goals as goal

pub returns-then-not-pending-clause-any_moment : goal.returns-then-not-pending-clause-any_moment
returns-then-not-pending-clause-any_moment g c =
    leaves-idle-view g.D.Disk.tells g.D.Disk.told c.self.inside.farm c.self.inside.journal c.self.invariant
    c.self.inside.recorded c.args.self.now c.self.view_is

pub invariant_of-self-in-Ok-Kept : goal.invariant_of-self-in-Ok-Kept
invariant_of-self-in-Ok-Kept g c =
    let some : IsSome c.self.inside.journal.pending = search rules in
    let one = some-is c.self.inside.journal.pending some in
    kept-found g.D.Disk.tells g.D.Disk.told c.self.inside.farm c.self.inside.journal c.self.invariant one
    c.commit_all.new.self c.repair.new.self c.commit_all.ensures.history c.in-Ok-Kept.ensures.idle
    (c.in-Ok-Kept.ensures.named one.payload one.is
    ∙ ap (λ (f : Repaired). payloads_after f c.self.inside.journal.payloads one.payload) c.in-Ok-Kept.field-0-is)
    c.repair.ensures.same c.in-Ok-Kept.ensures.held

pub invariant_of-self-in-Ok-Dropped : goal.invariant_of-self-in-Ok-Dropped
invariant_of-self-in-Ok-Dropped g c =
    let some : IsSome c.self.inside.journal.pending = search rules in
    let one = some-is c.self.inside.journal.pending some in
    kept-dropped g.D.Disk.tells g.D.Disk.told c.self.inside.farm c.self.inside.journal c.self.invariant
    c.self.inside.farm c.repair.new.self refl c.in-Ok-Dropped.ensures.idle
    (c.in-Ok-Dropped.ensures.named one.payload one.is
    ∙ ap (λ (f : Repaired). payloads_after f c.self.inside.journal.payloads one.payload) c.in-Ok-Dropped.field-0-is)
    c.repair.ensures.same c.in-Ok-Dropped.ensures.held

pub returns-in-Ok-Kept-clause-any_moment : goal.returns-in-Ok-Kept-clause-any_moment
returns-in-Ok-Kept-clause-any_moment g c =
    let some : IsSome c.self.inside.journal.pending = search rules in
    let one = some-is c.self.inside.journal.pending some in
    leaves-repair-view g.D.Disk.tells g.D.Disk.told c.self.inside.farm c.self.inside.journal c.self.invariant one
    c.self.inside.recorded c.args.self.now c.self.view_is _ (λ t. c.repair.ensures.any_moment t one.payload one.is)

pub returns-in-Ok-Dropped-clause-any_moment : goal.returns-in-Ok-Dropped-clause-any_moment
returns-in-Ok-Dropped-clause-any_moment g c =
    let some : IsSome c.self.inside.journal.pending = search rules in
    let one = some-is c.self.inside.journal.pending some in
    leaves-repair-view g.D.Disk.tells g.D.Disk.told c.self.inside.farm c.self.inside.journal c.self.invariant one
    c.self.inside.recorded c.args.self.now c.self.view_is _ (λ t. c.repair.ensures.any_moment t one.payload one.is)

pub returns-in-Err-StoreFault-clause-any_moment : goal.returns-in-Err-StoreFault-clause-any_moment
returns-in-Err-StoreFault-clause-any_moment g c =
    let some : IsSome c.self.inside.journal.pending = search rules in
    let one = some-is c.self.inside.journal.pending some in
    leaves-repair-view g.D.Disk.tells g.D.Disk.told c.self.inside.farm c.self.inside.journal c.self.invariant one
    c.self.inside.recorded c.args.self.now c.self.view_is _ (λ t. c.repair.ensures.any_moment t one.payload one.is)

pub returns-then-not-pending-clause-only : goal.returns-then-not-pending-clause-only
returns-then-not-pending-clause-only g c =
    reads-view g.D.Disk.tells g.D.Disk.told c.self.inside.farm c.self.inside.journal c.self.inside.recorded
    c.args.self.now c.self.view_is _ (λ t. reads-none (g.D.Disk.told c.self.inside.journal.disk))
