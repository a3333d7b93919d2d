use Rattle.std.proofs.Common.{Some, ap, sym, ◌∙◌}
use Rattle.worker_core.specs.declared.action.Action.{Action}
use Rattle.worker_agent.specs.Steps.{AgentState}
use Rattle.worker_agent.proofs.Saying.{drew-ok, says-not-net}
use Rattle.worker_agent.proofs.agent.Agent.step.Goals as goal

pub returns-in-Draw-clause-says : goal.returns-in-Draw-clause-says
returns-in-Draw-clause-says g c =
    let drew = c.draw.ensures.drew in
    drew-ok {A = Unit {0}} c.args.worker.now c.args.self.now c.draw.new.self (g.Q.KeySource.told c.args.keys.now)
    (g.Q.KeySource.told c.draw.new.keys) (g.N.Network.told c.args.network.now) (g.R.Runner.told c.args.runner.now) tt drew.0
    (sym (ap (λ (s : AgentState). s.core.last) c.self.view_is) ∙ c.self.invariant.action_is
    ∙ ap (λ (a : Action). Some a) c.in-Draw.is)
    drew.1 drew.2

pub returns-in-AskLease-clause-says : goal.returns-in-AskLease-clause-says
returns-in-AskLease-clause-says g c = c.ask_lease.ensures.says (g.R.Runner.told c.args.runner.now) (g.Q.KeySource.told c.args.keys.now)

pub returns-in-AskLease-clause-gives_up : goal.returns-in-AskLease-clause-gives_up
returns-in-AskLease-clause-gives_up g c = λ is.
    says-not-net c.args.worker.now c.args.self.now c.ask_lease.new.self _ _ c.ask_lease.result
    (c.ask_lease.ensures.says (g.R.Runner.told c.args.runner.now) (g.Q.KeySource.told c.args.keys.now)) is

pub returns-in-RunTest-clause-says : goal.returns-in-RunTest-clause-says
returns-in-RunTest-clause-says g c =
    c.run_test.ensures.says c.args.worker.now (g.N.Network.told c.args.network.now) (g.Q.KeySource.told c.args.keys.now)

pub returns-in-RunTest-clause-gives_up : goal.returns-in-RunTest-clause-gives_up
returns-in-RunTest-clause-gives_up g c = λ is.
    says-not-net c.args.worker.now c.args.self.now c.run_test.new.self _ _ c.run_test.result
    (c.run_test.ensures.says c.args.worker.now (g.N.Network.told c.args.network.now) (g.Q.KeySource.told c.args.keys.now)) is

pub returns-in-SendReport-clause-says : goal.returns-in-SendReport-clause-says
returns-in-SendReport-clause-says g c =
    c.report.ensures.says c.args.worker.now (g.R.Runner.told c.args.runner.now) (g.Q.KeySource.told c.args.keys.now)

pub returns-in-SendReport-clause-gives_up : goal.returns-in-SendReport-clause-gives_up
returns-in-SendReport-clause-gives_up g c = λ is.
    says-not-net c.args.worker.now c.args.self.now c.report.new.self _ _ c.report.result
    (c.report.ensures.says c.args.worker.now (g.R.Runner.told c.args.runner.now) (g.Q.KeySource.told c.args.keys.now)) is
