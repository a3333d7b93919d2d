use Rattle.std.proofs.Common.{subst}
use Rattle.worker_core.specs.declared.runner.Ran.{Ran}
use Rattle.worker_agent.specs.Agent.{AsksRunner}
use Rattle.worker_agent.proofs.Saying.{ran-err, ran-ok}
use Rattle.worker_agent.proofs.agent.Agent.run_test.Goals as goal

pub returns-in-Tested-clause-says : goal.returns-in-Tested-clause-says
returns-in-Tested-clause-says g c = λ worker network keys.
    ran-ok {A = Unit {0}} worker c.args.self.now c.note.new.self (g.R.Runner.told c.args.runner.now)
    (g.R.Runner.told c.ask_runner.new.runner) network keys tt c.in-Tested.tested c.requires
    (subst (λ (r : Ran). AsksRunner c.args.self.now.core.last c.args.self.now.lease (g.R.Runner.told c.args.runner.now)
    (g.R.Runner.told c.ask_runner.new.runner) r) c.in-Tested.is c.ask_runner.ensures.asked) c.note.ensures

pub returns-in-Failed-clause-says : goal.returns-in-Failed-clause-says
returns-in-Failed-clause-says g c = λ worker network keys.
    ran-err (Unit {0}) worker c.args.self.now c.args.self.now (g.R.Runner.told c.args.runner.now)
    (g.R.Runner.told c.ask_runner.new.runner) network keys c.requires
    (subst (λ (r : Ran). AsksRunner c.args.self.now.core.last c.args.self.now.lease (g.R.Runner.told c.args.runner.now)
    (g.R.Runner.told c.ask_runner.new.runner) r) c.in-Failed.is c.ask_runner.ensures.asked)
