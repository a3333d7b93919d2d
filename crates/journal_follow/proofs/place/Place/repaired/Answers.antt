-- What a repair leaves of each place.
use Rattle.std.proofs.Common.{◌≡◌, [], ◌∙◌, ap, length, sym, subst}
use Rattle.journal_follow.specs.Inside.{IsPlace, Mends, on_disk, place_state}
use Rattle.journal_follow.specs.State.{FollowerState}
use Rattle.journal_follow.specs.declared.place.Place.{Place}
use Rattle.std.specs.Prelude.{Ok}
use Rattle.journal_follow.proofs.Placing.{unborn-mends}
use Rattle.journal_follow.proofs.place.Place.repaired.Goals as goal

pub returns-in-Unborn-clause-place : goal.returns-in-Unborn-clause-place
returns-in-Unborn-clause-place g c =
    subst (λ (p : Place g.row.D.Denot). IsPlace g.D.Disk.tells g.D.Disk.told g.D.Disk.count p) c.in-Unborn.is c.requires

pub returns-in-Unborn-clause-mends : goal.returns-in-Unborn-clause-mends
returns-in-Unborn-clause-mends g c =
    subst (λ (p : Place g.row.D.Denot). Mends c.args.before (Ok tt)
    (place_state g.D.Disk.tells g.D.Disk.told g.D.Disk.count p)
    (on_disk g.D.Disk.tells g.D.Disk.told g.D.Disk.count c.in-Unborn.disk [] [])) (sym c.in-Unborn.is)
    (unborn-mends g.D.Disk c.args.before c.in-Unborn.disk
    (subst (λ (p : Place g.row.D.Denot). IsPlace g.D.Disk.tells g.D.Disk.told g.D.Disk.count p) c.in-Unborn.is
    c.requires))

pub reopen-requires : goal.reopen-requires
reopen-requires g c =
    subst (λ (p : Place g.row.D.Denot). IsPlace g.D.Disk.tells g.D.Disk.told g.D.Disk.count p) c.in-Begun.is c.requires

pub mend-requires : goal.mend-requires
mend-requires g c =
    subst (λ (p : Place g.row.D.Denot). IsPlace g.D.Disk.tells g.D.Disk.told g.D.Disk.count p) c.in-Open.is c.requires

pub returns-in-Begun-clause-place : goal.returns-in-Begun-clause-place
returns-in-Begun-clause-place g c = c.reopen.ensures.place

pub returns-in-Begun-clause-mends : goal.returns-in-Begun-clause-mends
returns-in-Begun-clause-mends g c =
    subst (λ (p : Place g.row.D.Denot). Mends c.args.before c.reopen.result.1
    (place_state g.D.Disk.tells g.D.Disk.told g.D.Disk.count p)
    (place_state g.D.Disk.tells g.D.Disk.told g.D.Disk.count c.reopen.result.0)) (sym c.in-Begun.is) c.reopen.ensures.mends

pub returns-in-Open-clause-place : goal.returns-in-Open-clause-place
returns-in-Open-clause-place g c = c.mend.ensures.place

pub returns-in-Open-clause-mends : goal.returns-in-Open-clause-mends
returns-in-Open-clause-mends g c =
    subst (λ (p : Place g.row.D.Denot). Mends c.args.before c.mend.result.1
    (place_state g.D.Disk.tells g.D.Disk.told g.D.Disk.count p)
    (place_state g.D.Disk.tells g.D.Disk.told g.D.Disk.count c.mend.result.0)) (sym c.in-Open.is) c.mend.ensures.mends
