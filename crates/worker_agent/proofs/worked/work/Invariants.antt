use Rattle.std.proofs.Common.{◌≡◌, ◌≤◌, true}
use Rattle.common_types.specs.Counts.{Rose}
use Rattle.worker_agent.proofs.Following.{Went}
use Rattle.worker_agent.proofs.Measure.{work_left}
use Rattle.worker_agent.proofs.Saying.{told_of}
use Rattle.worker_agent.proofs.worked.work.Given as goal

abbrev pub invariant-loop-end : goal.invariant-loop-end
invariant-loop-end g l = record {
  went : Went l.worker l.runs l.agent
      (told_of (g.N.Network.told l.fn.network) (g.R.Runner.told l.fn.runner) (g.Q.KeySource.told l.fn.keys))
      (told_of (g.N.Network.told l.network) (g.R.Runner.told l.runner) (g.Q.KeySource.told l.keys));
  rose : l.agent.faulted ≡ true → Rose (g.N.Network.count l.fn.network) (g.N.Network.count l.network);
  network : g.N.Network.count l.fn.network ≤ g.N.Network.count l.network;
  runner : g.R.Runner.count l.fn.runner ≤ g.R.Runner.count l.runner;
}

abbrev pub decreases-loop-end : goal.decreases-loop-end
decreases-loop-end g l = work_left l.agent.core.left l.agent.core.lost l.agent.core.last
