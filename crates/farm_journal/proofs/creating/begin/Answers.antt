use Rattle.std.proofs.Common.{Result, [], ◌∷◌, ◌∙◌, subst}
use Rattle.farm_journal.specs.Outcome.{SyncEnds}
use Rattle.farm_journal.specs.Created.{IsUnborn}
use Rattle.farm_journal.specs.declared.disk_calls.DiskFault.{DiskFault}
use Rattle.farm_journal.proofs.Births.{birth-start, birth-sync, birth-write, torn-short, short-unborn, written-unborn, begun}
use Rattle.farm_journal.proofs.Run.{on_ok}
use Rattle.farm_journal.proofs.creating.begin.Goals as goal

pub returns-in_err-write-clause-any_moment : goal.returns-in_err-write-clause-any_moment
returns-in_err-write-clause-any_moment g c tells settled =
    let short = c.requires tells in
    birth-write _ IsUnborn 0 (0 ∷ []) _ _ c.write.result (birth-start _ IsUnborn settled (short-unborn _ short)) settled
    (λ image torn. torn-short _ image short torn) (c.write.ensures.ends tells)

pub returns-clause-any_moment : goal.returns-clause-any_moment
returns-clause-any_moment g c tells settled =
    let short = c.requires tells in
    let one = birth-write _ IsUnborn 0 (0 ∷ []) _ _ c.write.result
    (birth-start _ IsUnborn settled (short-unborn _ short)) settled (λ image torn. torn-short _ image short torn)
    (c.write.ensures.ends tells) in
    birth-sync _ IsUnborn _ _ c.sync.result one (written-unborn _ _ short (c.in_ok-write.ensures.ends tells))
    (c.sync.ensures.ends (c.write.ensures.same ∙ tells))

pub returns-clause-done : goal.returns-clause-done
returns-clause-done g c = on_ok c.sync.result _ (λ u is tells.
    let synced = subst
    (λ (r : Result (Unit {0}) DiskFault). SyncEnds r (g.D.Disk.told c.write.new.disk) (g.D.Disk.told c.sync.new.disk))
    is (c.sync.ensures.ends (c.write.ensures.same ∙ tells)) in
    begun (g.D.Disk.told c.args.disk.now) _ _ (c.requires tells) (c.in_ok-write.ensures.ends tells) synced)
