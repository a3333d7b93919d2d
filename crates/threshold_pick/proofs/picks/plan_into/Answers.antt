use Rattle.std.proofs.Common.{arith}
use Rattle.threshold_pick.proofs.Costs.{pow-one_factor_more}
use Rattle.threshold_pick.proofs.Plans.{IsPick-set}
use Rattle.threshold_pick.proofs.picks.plan_into.Goals as goal

pub loop-index-preserved : goal.loop-index-preserved
loop-index-preserved g c =
    let kept = c.loop-index.invariant in
    record {
      picks = rw c.from.ensures
          (IsPick-set c.args.sums.now c.args.floor c.args.k c.loop-index.index c.pick.result c.loop-index.out (omega arith)
          kept.picks c.pick.ensures.nearest);
      counted = omega (arith, kept.counted, c.pick.ensures.counted);
      cost = pow-one_factor_more c.args.steps.now c.loop-index.steps c.pick.new.steps _ _ kept.counted c.pick.ensures.counted
          kept.cost c.pick.ensures.cost;
    }
