use Rattle.worker_agent.proofs.Saying.{asks-runner}
use Rattle.worker_agent.proofs.agent.Agent.ask_runner.Goals as goal

pub returns-clause-asked : goal.returns-clause-asked
returns-clause-asked g c =
    let inside = c.self.inside in
    asks-runner (record { core = inside.core; lease = inside.lease; faulted = inside.faulted }) c.args.self.now inside.action
    c.in-Some.lease (g.R.Runner.told c.args.runner.now) (g.R.Runner.told c.run.new.self) c.run.result c.self.view_is c.requires
    c.self.invariant c.in-Some.is c.run.ensures.told
