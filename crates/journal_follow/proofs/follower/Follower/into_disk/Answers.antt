use Rattle.journal_follow.proofs.Holding.{told-kept}
use Rattle.journal_follow.proofs.follower.Follower.into_disk.Goals as goal

pub returns-in-Some-Unborn-clause-kept : goal.returns-in-Some-Unborn-clause-kept
returns-in-Some-Unborn-clause-kept g c =
    told-kept g.D.Disk.tells g.D.Disk.told g.D.Disk.count c.self.inside.place c.args.self c.self.view_is c.self.invariant

pub returns-in-Some-Begun-clause-kept : goal.returns-in-Some-Begun-clause-kept
returns-in-Some-Begun-clause-kept g c =
    told-kept g.D.Disk.tells g.D.Disk.told g.D.Disk.count c.self.inside.place c.args.self c.self.view_is c.self.invariant

pub returns-in-Some-Open-clause-kept : goal.returns-in-Some-Open-clause-kept
returns-in-Some-Open-clause-kept g c =
    told-kept g.D.Disk.tells g.D.Disk.told g.D.Disk.count c.self.inside.place c.args.self c.self.view_is c.self.invariant
