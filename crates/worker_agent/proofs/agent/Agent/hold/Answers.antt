use Rattle.worker_agent.proofs.Holding.{agent-leased}
use Rattle.worker_agent.proofs.agent.Agent.hold.Goals as goal

pub invariant_of-self : goal.invariant_of-self
invariant_of-self c =
    let inside = c.self.inside in
    let step = c.step-self-inside in
    agent-leased c.args.self.now inside.core step.new.self c.args.lease inside.lease inside.faulted step.result
    c.self.view_is c.requires step.ensures.action step.ensures.state
