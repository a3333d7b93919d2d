use Rattle.std.proofs.Common.{arith, ap, subst, sym, ◌∙◌, false, ◌≡◌}
use Rattle.std.proofs.lemmas.Bool.{false≢true}
use Rattle.worker_agent.specs.Steps.{AgentState}
use Rattle.http_exchange.proofs.Sendings.{rose-later}
use Rattle.worker_agent.proofs.Following.{Went, few-left, went-first, went-on, works-end}
use Rattle.worker_agent.proofs.Saying.{told_of}
use Rattle.worker_agent.proofs.Suiting.{less-left}
use Rattle.worker_agent.proofs.worked.work.Goals as goal

pub loop-end-init : goal.loop-end-init
loop-end-init g c =
    let told = told_of (g.N.Network.told c.args.network.now) (g.R.Runner.told c.args.runner.now) (g.Q.KeySource.told c.args.keys.now) in
    let calm : c.start-agent.result.faulted ≡ false = ap (λ (s : AgentState). s.faulted) c.start-agent.ensures in
    record {
      went = subst (λ (s : AgentState). Went c.args.worker.now c.args.runs s told told) (sym c.start-agent.ensures)
          (went-first c.args.worker.now c.args.runs told);
      rose = λ e. absurd {0} (false≢true (sym calm ∙ e));
      network = omega arith;
      runner = omega arith;
    }

pub finish-requires-clause-few : goal.finish-requires-clause-few
finish-requires-clause-few g c =
    few-left c.args.worker.now c.args.runs c.loop-end.agent _ _ c.requires c.loop-end.invariant.went

pub returns-in-Stop-clause-works : goal.returns-in-Stop-clause-works
returns-in-Stop-clause-works g c =
    works-end c.args.worker.now c.args.runs c.loop-end.agent _ _ c.requires c.loop-end.invariant.went c.finish.result c.finish.ensures

pub loop-end-smaller : goal.loop-end-smaller
loop-end-smaller g c =
    let says = c.in_ok-step.ensures.says in
    less-left c.args.worker.now c.loop-end.agent says.0 says.1 c.step.new.self c.action.ensures.core says.2

pub loop-end-preserved : goal.loop-end-preserved
loop-end-preserved g c =
    let old = c.loop-end.invariant in
    let ensures = c.in_ok-step.ensures in
    record {
      went = went-on c.args.worker.now c.args.runs c.loop-end.agent c.step.new.self _ _ _ c.in_ok-step.field-0 old.went ensures.says;
      rose = λ e. rose-later (g.N.Network.count c.args.network.now) (g.N.Network.count c.loop-end.network)
          (g.N.Network.count c.step.new.network) old.network (ensures.rises e);
      network = omega (arith, old.network, ensures.network_count);
      runner = omega (arith, old.runner, ensures.runner_count);
    }
