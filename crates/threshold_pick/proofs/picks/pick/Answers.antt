use Rattle.std.proofs.Common.{◌-◌, ◌*◌, ◌^◌, ◌≤◌, arith}
use Rattle.threshold_pick.specs.Sums.{suspects_in}
use Rattle.threshold_pick.specs.Picks.{away}
use Rattle.threshold_pick.proofs.Rising.{sum_at_fits}
use Rattle.threshold_pick.proofs.Valleys.{IsValley-away, IsNearest-first, IsPick-neighbours}
use Rattle.threshold_pick.proofs.Costs.{pow-two_more}
use Rattle.threshold_pick.proofs.picks.pick.Goals as goal

pub returns-then-reaching-floor-clause-nearest : goal.returns-then-reaching-floor-clause-nearest
returns-then-reaching-floor-clause-nearest g c =
    let found = c.first_reaching-reaching.ensures in
    let sums = c.args.sums.now in
    let turn = c.first_reaching-reaching.result in
    IsNearest-first (away sums c.args.j c.args.k) c.args.floor (suspects_in sums) turn
    (IsValley-away sums c.args.floor c.args.j c.args.k _ _ turn c.requires.sums.rising
    c.of-threshold.ensures.parts c.of-threshold.ensures.mark found.above found.within found.before found.from)
    c.if-reaching-floor.true

pub distance-here-requires : goal.distance-here-requires
distance-here-requires g c =
    let found = c.first_reaching-reaching.ensures in
    rw (c.at-2.ensures.value, c.from-2.ensures)
    (sum_at_fits c.args.floor c.args.sums.now c.first_reaching-reaching.result c.of-threshold.result.parts
    c.requires.sums.rising (omega arith) (omega arith) c.of-threshold.ensures.room)

pub returns-then-before-here-clause-nearest : goal.returns-then-before-here-clause-nearest
returns-then-before-here-clause-nearest g c =
    let found = c.first_reaching-reaching.ensures in
    let threshold = c.of-threshold.ensures in
    let sums = c.args.sums.now in
    let turn = c.first_reaching-reaching.result in
    let neighbours =
    IsPick-neighbours sums c.args.floor c.args.j c.args.k _ _ turn c.at.result c.at-2.result threshold.parts threshold.mark
    (IsValley-away sums c.args.floor c.args.j c.args.k _ _ turn c.requires.sums.rising threshold.parts threshold.mark
    found.above found.within found.before found.from)
    (omega arith)
    (rw c.from.ensures at c.at.ensures.value)
    (rw c.from-2.ensures at c.at-2.ensures.value) in
    neighbours.0 (rw (c.distance-before.ensures, c.distance-here.ensures) at c.if-before-here.true)

pub returns-then-before-here-clause-cost : goal.returns-then-before-here-clause-cost
returns-then-before-here-clause-cost g c =
    let found = c.first_reaching-reaching.ensures in
    let bound : 2 ^ (c.at-2.new.steps - c.args.steps.now) ≤ 4 * (2 * suspects_in c.args.sums.now) =
    pow-two_more c.args.steps.now c.first_reaching-reaching.new.steps c.at-2.new.steps _ found.counted (omega arith)
    found.cost in
    omega (arith, bound)

pub returns-else-before-here-clause-nearest : goal.returns-else-before-here-clause-nearest
returns-else-before-here-clause-nearest g c =
    let found = c.first_reaching-reaching.ensures in
    let threshold = c.of-threshold.ensures in
    let sums = c.args.sums.now in
    let turn = c.first_reaching-reaching.result in
    let neighbours =
    IsPick-neighbours sums c.args.floor c.args.j c.args.k _ _ turn c.at.result c.at-2.result threshold.parts threshold.mark
    (IsValley-away sums c.args.floor c.args.j c.args.k _ _ turn c.requires.sums.rising threshold.parts threshold.mark
    found.above found.within found.before found.from)
    (omega arith)
    (rw c.from.ensures at c.at.ensures.value)
    (rw c.from-2.ensures at c.at-2.ensures.value) in
    neighbours.1 (rw (c.distance-before.ensures, c.distance-here.ensures) at c.if-before-here.false)

pub returns-else-before-here-clause-cost : goal.returns-else-before-here-clause-cost
returns-else-before-here-clause-cost g c =
    let found = c.first_reaching-reaching.ensures in
    let bound : 2 ^ (c.at-2.new.steps - c.args.steps.now) ≤ 4 * (2 * suspects_in c.args.sums.now) =
    pow-two_more c.args.steps.now c.first_reaching-reaching.new.steps c.at-2.new.steps _ found.counted (omega arith)
    found.cost in
    omega (arith, bound)
