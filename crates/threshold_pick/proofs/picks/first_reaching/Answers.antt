use Rattle.std.proofs.Common.{rules, ◌≡◌, ◌*◌, ◌<◌, ◌≤◌, arith}
use Rattle.threshold_pick.specs.Sums.{sum_at}
use Rattle.threshold_pick.proofs.Rising.{sum_at_scaled, sum_at_fits}
use Rattle.threshold_pick.proofs.Costs.{pow-half}
use Rattle.threshold_pick.proofs.picks.first_reaching.Goals as goal

pub is_reached_by-requires : goal.is_reached_by-requires
is_reached_by-requires g c =
    let kept = c.loop-low.invariant in
    rw c.at.ensures.value
    (sum_at_fits c.args.floor c.args.sums.now c.from.result c.args.threshold.parts c.requires.sums.rising
    (omega arith) (omega arith) c.requires.room)

pub loop-low-preserved-then-is_reached_by : goal.loop-low-preserved-then-is_reached_by
loop-low-preserved-then-is_reached_by g c =
    let sums = c.args.sums.now in
    let kept = c.loop-low.invariant in
    let middle = c.midpoint-middle.result in
    let reached : c.args.threshold.mark ≤ c.at.result * c.args.threshold.parts = search rules in
    record {
      above = omega arith;
      order = omega arith;
      within = omega arith;
      before = kept.before;
      from = λ i from_middle last.
          let higher =
          sum_at_scaled c.args.floor sums middle i c.args.threshold.parts c.requires.sums.rising (omega arith) from_middle (omega arith) in
          let here : c.at.result ≡ sum_at sums middle = rw c.from.ensures at c.at.ensures.value in
          let reached_here = rw here at reached in
          omega (arith, higher, reached_here);
      counted = omega (arith, kept.counted, c.at.ensures.cost);
      cost = pow-half c.args.steps.now c.loop-low.steps c.at.new.steps _ _ _ kept.counted c.at.ensures.cost (omega arith) kept.cost;
    }

pub loop-low-preserved : goal.loop-low-preserved
loop-low-preserved g c =
    let sums = c.args.sums.now in
    let kept = c.loop-low.invariant in
    let middle = c.midpoint-middle.result in
    let below : c.at.result * c.args.threshold.parts < c.args.threshold.mark = search rules in
    record {
      above = omega arith;
      order = omega arith;
      within = omega arith;
      before = λ i above to_middle.
          let lower =
          sum_at_scaled c.args.floor sums i middle c.args.threshold.parts c.requires.sums.rising above (omega arith) (omega arith) in
          let here : c.at.result ≡ sum_at sums middle = rw c.from.ensures at c.at.ensures.value in
          let below_here = rw here at below in
          omega (arith, lower, below_here);
      from = kept.from;
      counted = omega (arith, kept.counted, c.at.ensures.cost);
      cost = pow-half c.args.steps.now c.loop-low.steps c.at.new.steps _ _ _ kept.counted c.at.ensures.cost (omega arith) kept.cost;
    }
