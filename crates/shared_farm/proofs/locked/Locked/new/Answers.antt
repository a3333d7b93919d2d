use Rattle.std.proofs.Common.{IfSome, subst, sym}
use Rattle.shared_farm.specs.Answered.{FitRecord}
use Rattle.shared_farm.specs.Posted.{IsPicked, PostedState}
use Rattle.shared_farm.specs.Rests.{CameBy}
use Rattle.shared_farm.proofs.Logging.{first-logged}
use Rattle.shared_farm.proofs.locked.Locked.new.Goals as goal

pub invariant_of-result : goal.invariant_of-result
invariant_of-result g c =
    let posted = c.posted.invariant in
    let store = c.posted.inside.store in
    let logged = first-logged g.D.Disk g.D.DatedDisk.dated store c.new-log.result c.tell.new.log c.new-log.ensures
    c.tell.ensures.told c.tell.ensures.moment c.tell.ensures.stored in (
      posted.0,
      posted.1,
      posted.2,
      subst (λ (p : PostedState g.row.D.Denot). IfSome g.B.Beginning.begun (λ begun. CameBy g.D.Disk begun p.store))
          (sym c.posted.view_is) c.requires.came,
      logged.0,
      logged.1,
      subst (λ (p : PostedState g.row.D.Denot). IsPicked g.B.Beginning.board p.board) (sym c.posted.view_is)
          c.requires.board,
      subst (λ (p : PostedState g.row.D.Denot). FitRecord p.store.pending) (sym c.posted.view_is) c.requires.fit,
    )
