use Rattle.std.proofs.Common.{◌-◌, ◌/◌, arith, refl}
use Rattle.threshold_pick.proofs.Blocks.{middle_in-is}
use Rattle.threshold_pick.proofs.hidden.middle.Goals as goal

pub returns-clause-middle : goal.returns-clause-middle
returns-clause-middle g c =
    let kept = c.loop-low.invariant in
    let whole = c.total-whole.result in
    middle_in-is c.args.sums.now (whole - whole / 2) c.loop-low.low (rw c.total-whole.ensures refl) kept.first
    (omega arith) kept.before (λ i at within. kept.from i (omega arith) within)
