use Rattle.std.proofs.Common.{◌≡◌, ℕ, subst, arith}
use Rattle.drill_plan.specs.Start.{IsStart}
use Rattle.farm_drill.proofs.Steps.{start-none}
use Rattle.farm_drill.proofs.opens.open_all.Goals as goal

pub loop-before-init : goal.loop-before-init
loop-before-init c = record {
  start = start-none c.in_ok-store.store.history c.in_ok-store.ensures.history;
  decided = c.in_ok-store.ensures.decided;
}

pub returns-clause-start : goal.returns-clause-start
returns-clause-start c =
    let all : c.loop-before.before ≡ c.args.searches = omega arith in
    subst (λ (n : ℕ). IsStart n c.loop-before.store.history) all c.loop-before.invariant.start
