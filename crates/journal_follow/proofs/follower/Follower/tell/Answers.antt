use Rattle.journal_follow.proofs.Holding.{told-kept, told-legal}
use Rattle.journal_follow.proofs.follower.Follower.tell.Goals as goal

pub returns-clause-legal : goal.returns-clause-legal
returns-clause-legal g c =
    told-legal g.D.Disk.tells g.D.Disk.told g.D.Disk.count c.self.inside.place c.args.self.now c.self.view_is
    c.self.invariant

pub returns-clause-kept : goal.returns-clause-kept
returns-clause-kept g c =
    told-kept g.D.Disk.tells g.D.Disk.told g.D.Disk.count c.self.inside.place c.args.self.now c.self.view_is
    c.self.invariant
