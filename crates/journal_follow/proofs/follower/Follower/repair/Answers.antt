-- What a repair leaves of a follower, by where it keeps its history.
use Rattle.std.proofs.Common.{◌≡◌, Some, rules}
use Rattle.journal_follow.specs.Inside.{Mends}
use Rattle.journal_follow.specs.State.{FollowerState}
use Rattle.journal_follow.proofs.Holding.{both-views, follower-of, place-of}
use Rattle.journal_follow.proofs.follower.Follower.repair.Goals as goal

pub repaired-place-requires : goal.repaired-place-requires
repaired-place-requires g c =
    place-of g.D.Disk.tells g.D.Disk.told g.D.Disk.count c.self.inside.place c.in-Some.place (search rules) c.self.invariant

pub invariant_of-self : goal.invariant_of-self
invariant_of-self g c =
    follower-of g.D.Disk.tells g.D.Disk.told g.D.Disk.count c.put_back.new.slot c.repaired-place.result.0
    c.put_back.ensures c.repaired-place.ensures.place

pub returns : goal.returns
returns g c =
    let is : c.self.inside.place ≡ Some c.in-Some.place = search rules in
    both-views g.D.Disk.tells g.D.Disk.told g.D.Disk.count c.self.inside.place c.put_back.new.slot c.in-Some.place
    c.repaired-place.result.0 c.args.self.now c.self.view_is is c.put_back.ensures
    (λ (a b : FollowerState). Mends c.args.before c.repaired-place.result.1 a b) c.repaired-place.ensures.mends
