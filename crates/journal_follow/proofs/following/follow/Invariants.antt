use Rattle.std.proofs.Common.{◌≡◌, ◌≤◌, ◌-◌, ◌++◌, true}
use Rattle.farm_disk.specs.Images.{LeavesOnly}
use Rattle.journal_follow.specs.Page.{MayBeHeld}
use Rattle.journal_follow.specs.Shown.{IsKept}
use Rattle.journal_follow.proofs.Going.{HasGone, ShowsGone}
use Rattle.journal_follow.proofs.following.follow.Given as goal

abbrev pub invariant-loop-left : goal.invariant-loop-left
invariant-loop-left g l = record {
  gone : HasGone l.fn.follower.held l.follower.held (g.N.Network.told l.fn.network) (g.N.Network.told l.network)
      l.compared (l.rounds - l.left);
  few : l.left ≤ l.rounds;
  same : l.follower.tells ≡ l.fn.follower.tells;
  legal : MayBeHeld (l.follower.held.history ++ l.follower.held.pending);
  images : l.fn.follower.tells ≡ true → LeavesOnly l.fn.follower.disk l.follower.disk
      (ShowsGone l.fn.follower.held l.follower.held);
  kept : l.fn.follower.tells ≡ true → IsKept l.follower.held l.follower.disk;
  network : g.N.Network.count l.fn.network ≤ g.N.Network.count l.network;
  stores : l.fn.follower.count ≤ l.follower.count;
}

abbrev pub decreases-loop-left : goal.decreases-loop-left
decreases-loop-left g l = l.left
