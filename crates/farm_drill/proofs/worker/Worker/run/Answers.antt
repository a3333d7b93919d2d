use Rattle.std.proofs.Common.{rules, ◌≡◌, Option, Some, ap, subst, sym, ◌∙◌}
use Rattle.worker_core.specs.Core.{Core}
use Rattle.worker_core.specs.declared.action.Action.{Action}
use Rattle.worker_core.specs.declared.event.Event.TheVariants as event
use Rattle.farm_drill.specs.Work.{ActsByPlan, CameByPlan}
use Rattle.farm_drill.proofs.Passes.{keeps-same, keeps-then, kept-by_plan}
use Rattle.farm_drill.proofs.Work.{first-acts, first-came, step-acts, step-last}
use Rattle.farm_drill.proofs.worker.Worker.run.Goals as goal

pub loop-init : goal.loop-init
loop-init g c =
    let seen = c.args.pass.now.seen in
    let self = c.args.self.now in
    record {
      goes = search rules;
      ends = search rules;
      ready = c.requires.ready;
      keeps = keeps-same c.args.pass.now c.requires.by_plan;
      asks = c.requires.asks;
      acts = first-acts seen self.held self.core.last c.requires.last;
      came = first-came seen self.held self.core.last event.Begin c.requires.last;
    }

pub act-requires-clause-by_plan : goal.act-requires-clause-by_plan
act-requires-clause-by_plan g c = kept-by_plan c.args.pass.now c.loop.pass c.loop.invariant.keeps

pub act-requires-clause-acts : goal.act-requires-clause-acts
act-requires-clause-acts g c =
    step-acts c.loop.pass.seen c.loop.self.held c.loop.self.core c.loop.event c.step-action.result
    c.step-action.ensures.action c.loop.invariant.acts c.loop.invariant.came

pub loop-preserved : goal.loop-preserved
loop-preserved g c =
    let seen = c.act.new.pass.seen in
    let held = c.act.new.self.held in
    let last : c.act.new.self.core.last ≡ Some c.step-action.result =
    ap (λ (k : Core). k.last) c.act.ensures.core
    ∙ step-last c.loop.self.core c.step-action.new.self c.loop.event c.step-action.result c.step-action.ensures.action
    c.step-action.ensures.state in
    record {
      goes = search rules;
      ends = search rules;
      ready = c.act.ensures.ready;
      keeps = keeps-then c.args.pass.now c.loop.pass c.act.new.pass c.loop.invariant.keeps c.act.ensures.keeps;
      asks = c.act.ensures.asks;
      acts = subst (ActsByPlan seen held) (sym last) c.act.ensures.acts;
      came = subst (λ (a : Option Action). CameByPlan seen held a c.in-Ok.next) (sym last) c.in-Ok.ensures.came;
    }

pub returns-in-Err-clause-keeps : goal.returns-in-Err-clause-keeps
returns-in-Err-clause-keeps g c =
    keeps-then c.args.pass.now c.loop.pass c.act.new.pass c.loop.invariant.keeps c.act.ensures.keeps
