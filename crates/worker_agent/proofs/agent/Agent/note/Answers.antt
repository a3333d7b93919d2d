use Rattle.worker_agent.proofs.Holding.{agent-noted}
use Rattle.worker_agent.proofs.agent.Agent.note.Goals as goal

pub invariant_of-self : goal.invariant_of-self
invariant_of-self c =
    let inside = c.self.inside in
    let step = c.step-self-inside in
    agent-noted inside.core step.new.self c.args.event step.result inside.lease c.requires c.self.invariant.holds
    step.ensures.action step.ensures.state
