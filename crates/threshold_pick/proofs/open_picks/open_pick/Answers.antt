use Rattle.std.proofs.Common.{rules, ◌≡◌, ◌-◌, ◌*◌, ◌^◌, ◌≤◌, [], arith}
use Rattle.threshold_pick.specs.Sums.{suspects_in}
use Rattle.threshold_pick.specs.Picks.{away}
use Rattle.threshold_pick.proofs.Rising.{sum_at_fits}
use Rattle.threshold_pick.proofs.Valleys.{abs_diff-away}
use Rattle.threshold_pick.proofs.Costs.{pow-two_more}
use Rattle.threshold_pick.proofs.OpenPicks.{AreShut-turned, IsNearestOf-before, IsNearestOf-both, IsNearestOf-farther, IsNearestOf-from, IsTurned, IsTurned-at, open_pick_in-is, open_pick_in-none, open_pick_in-pick}
use Rattle.threshold_pick.proofs.open_picks.open_pick.Goals.{After-first_at-from, After-distance-distance_from}
use Rattle.threshold_pick.proofs.open_picks.open_pick.Goals as goal

pub returns-then-is_empty-clause-nearest : goal.returns-then-is_empty-clause-nearest
returns-then-is_empty-clause-nearest g c =
    let none : c.args.skips.now ≡ [] = search rules in
    let some = c.requires.sums.some in
    open_pick_in-pick c.args.sums.now c.args.floor c.args.skips.now c.args.j c.args.k c.pick.result
    (omega (arith, some)) none c.pick.ensures.nearest

-- the positions beside the place where the sums reach the threshold
turned : (g : _) (c : After-first_at-from g) → IsTurned c.args.skips.now (away c.args.sums.now c.args.j c.args.k)
    c.args.floor (suspects_in c.args.sums.now) c.first_reaching-reaching.result c.last_below-before.result
    c.first_at-from.result
turned g c =
    let found = c.first_reaching-reaching.ensures in
    let threshold = c.of-threshold.ensures in
    IsTurned-at c.args.sums.now c.args.floor c.args.j c.args.k c.of-threshold.result.parts c.of-threshold.result.mark
    c.first_reaching-reaching.result c.args.skips.now c.suspects-suspects.result c.last_below-before.result
    c.first_at-from.result c.requires.sums.rising threshold.parts threshold.mark found.above found.within found.before
    found.from c.suspects-suspects.ensures c.last_below-before.ensures c.first_at-from.ensures

pub at-requires-clause-last : goal.at-requires-clause-last
at-requires-clause-last g c =
    let sides = turned g (goal.at.at-requires-clause-last g c).After-first_at-from in
    let upto = sides.last.upto in
    omega (arith, upto, c.from.ensures, c.first_reaching-reaching.ensures.within)

pub distance-distance_before-requires : goal.distance-distance_before-requires
distance-distance_before-requires g c =
    let sides = turned g (goal.at.distance-distance_before-requires g c).After-first_at-from in
    let upto = sides.last.upto in
    let above = c.if-before-floor.false in
    let some = c.requires.sums.some in
    rw (c.at.ensures.value, c.from.ensures)
    (sum_at_fits c.args.floor c.args.sums.now c.last_below-before.result c.of-threshold.result.parts
    c.requires.sums.rising (omega (arith, above))
    (omega (arith, upto, some, c.first_reaching-reaching.ensures.within)) c.of-threshold.ensures.room)

pub at-requires-else-suspects-from-clause-first : goal.at-requires-else-suspects-from-clause-first
at-requires-else-suspects-from-clause-first g c =
    let sides = turned g (goal.at.at-requires-else-suspects-from-clause-first g c).After-first_at-from in
    let behind = sides.next.above in
    omega (arith, behind, c.from-else-suspects-from.ensures, c.first_reaching-reaching.ensures.above)

pub distance-distance_from-requires : goal.distance-distance_from-requires
distance-distance_from-requires g c =
    let sides = turned g (goal.at.distance-distance_from-requires g c).After-first_at-from in
    let behind = sides.next.above in
    let within = c.if-suspects-from.false in
    rw (c.at-else-suspects-from.ensures.value, c.from-else-suspects-from.ensures)
    (sum_at_fits c.args.floor c.args.sums.now c.first_at-from.result c.of-threshold.result.parts
    c.requires.sums.rising (omega (arith, behind, c.first_reaching-reaching.ensures.above))
    (omega (arith, within, c.suspects-suspects.ensures)) c.of-threshold.ensures.room)

pub returns-then-from-suspects-clause-nearest : goal.returns-then-from-suspects-clause-nearest
returns-then-from-suspects-clause-nearest g c =
    let sides = turned g (goal.at.returns-then-from-suspects-clause-nearest g c).After-first_at-from in
    let sums = c.args.sums.now in
    let none = c.if-before-floor.true in
    let within = c.if-from-suspects.true in
    let some = c.requires.sums.some in
    open_pick_in-is sums c.args.floor c.args.skips.now c.args.j c.args.k c.first_at-from.result (omega (arith, some))
    (IsNearestOf-from c.args.skips.now (away sums c.args.j c.args.k) c.args.floor (suspects_in sums)
    c.first_reaching-reaching.result c.last_below-before.result c.first_at-from.result sides none
    (omega (arith, within, c.suspects-suspects.ensures)))

pub returns-else-from-suspects-clause-nearest : goal.returns-else-from-suspects-clause-nearest
returns-else-from-suspects-clause-nearest g c =
    let sides = turned g (goal.at.returns-else-from-suspects-clause-nearest g c).After-first_at-from in
    let sums = c.args.sums.now in
    let none = c.if-before-floor.true in
    let past = c.if-from-suspects.false in
    let some = c.requires.sums.some in
    open_pick_in-none sums c.args.floor c.args.skips.now c.args.j c.args.k (omega (arith, some))
    (AreShut-turned c.args.skips.now (away sums c.args.j c.args.k) c.args.floor (suspects_in sums)
    c.first_reaching-reaching.result c.last_below-before.result c.first_at-from.result sides none
    (omega (arith, past, c.suspects-suspects.ensures)))

pub returns-then-suspects-from-clause-nearest : goal.returns-then-suspects-from-clause-nearest
returns-then-suspects-from-clause-nearest g c =
    let sides = turned g (goal.at.returns-then-suspects-from-clause-nearest g c).After-first_at-from in
    let sums = c.args.sums.now in
    let above = c.if-before-floor.false in
    let past = c.if-suspects-from.true in
    let some = c.requires.sums.some in
    open_pick_in-is sums c.args.floor c.args.skips.now c.args.j c.args.k c.last_below-before.result
    (omega (arith, some))
    (IsNearestOf-before c.args.skips.now (away sums c.args.j c.args.k) c.args.floor (suspects_in sums)
    c.first_reaching-reaching.result c.last_below-before.result c.first_at-from.result sides (omega (arith, above))
    (omega (arith, past, c.suspects-suspects.ensures)))

-- the distances of both, as they were read
read : (g : _) (c : After-distance-distance_from g) →
    (c.distance-distance_before.result ≡ away c.args.sums.now c.args.j c.args.k c.last_below-before.result)
    × (c.distance-distance_from.result ≡ away c.args.sums.now c.args.j c.args.k c.first_at-from.result)
read g c =
    let threshold = c.of-threshold.ensures in
    let sums = c.args.sums.now in (
      rw c.distance-distance_before.ensures
          (abs_diff-away sums c.args.j c.args.k c.last_below-before.result c.at.result _ _ threshold.parts
          threshold.mark (rw c.from.ensures at c.at.ensures.value)),
      rw c.distance-distance_from.ensures
          (abs_diff-away sums c.args.j c.args.k c.first_at-from.result c.at-else-suspects-from.result _ _
          threshold.parts threshold.mark
          (rw c.from-else-suspects-from.ensures at c.at-else-suspects-from.ensures.value)),
    )

pub returns-then-distance_before-distance_from-clause-nearest :
    goal.returns-then-distance_before-distance_from-clause-nearest
returns-then-distance_before-distance_from-clause-nearest g c =
    let place = goal.at.returns-then-distance_before-distance_from-clause-nearest g c in
    let sides = turned g place.After-first_at-from in
    let distances = read g place.After-distance-distance_from in
    let sums = c.args.sums.now in
    let above = c.if-before-floor.false in
    let within = c.if-suspects-from.false in
    let near = c.if-distance_before-distance_from.true in
    let some = c.requires.sums.some in
    open_pick_in-is sums c.args.floor c.args.skips.now c.args.j c.args.k c.last_below-before.result
    (omega (arith, some))
    (IsNearestOf-both c.args.skips.now (away sums c.args.j c.args.k) c.args.floor (suspects_in sums)
    c.first_reaching-reaching.result c.last_below-before.result c.first_at-from.result sides (omega (arith, above))
    (omega (arith, within, c.suspects-suspects.ensures)) (rw (distances.0, distances.1) at near))

pub returns-then-distance_before-distance_from-clause-cost : goal.returns-then-distance_before-distance_from-clause-cost
returns-then-distance_before-distance_from-clause-cost g c =
    let found = c.first_reaching-reaching.ensures in
    let bound : 2 ^ (c.at-else-suspects-from.new.steps - c.args.steps.now) ≤ 4 * (2 * suspects_in c.args.sums.now) =
    pow-two_more c.args.steps.now c.first_reaching-reaching.new.steps c.at-else-suspects-from.new.steps _ found.counted
    (omega (arith, c.at.ensures.cost, c.at-else-suspects-from.ensures.cost)) found.cost in
    omega (arith, bound)

pub returns-else-distance_before-distance_from-clause-nearest :
    goal.returns-else-distance_before-distance_from-clause-nearest
returns-else-distance_before-distance_from-clause-nearest g c =
    let place = goal.at.returns-else-distance_before-distance_from-clause-nearest g c in
    let sides = turned g place.After-first_at-from in
    let distances = read g place.After-distance-distance_from in
    let sums = c.args.sums.now in
    let within = c.if-suspects-from.false in
    let nearer = c.if-distance_before-distance_from.false in
    let some = c.requires.sums.some in
    open_pick_in-is sums c.args.floor c.args.skips.now c.args.j c.args.k c.first_at-from.result (omega (arith, some))
    (IsNearestOf-farther c.args.skips.now (away sums c.args.j c.args.k) c.args.floor (suspects_in sums)
    c.first_reaching-reaching.result c.last_below-before.result c.first_at-from.result sides
    (omega (arith, within, c.suspects-suspects.ensures)) (rw (distances.0, distances.1) at nearer))

pub returns-else-distance_before-distance_from-clause-cost : goal.returns-else-distance_before-distance_from-clause-cost
returns-else-distance_before-distance_from-clause-cost g c =
    let found = c.first_reaching-reaching.ensures in
    let bound : 2 ^ (c.at-else-suspects-from.new.steps - c.args.steps.now) ≤ 4 * (2 * suspects_in c.args.sums.now) =
    pow-two_more c.args.steps.now c.first_reaching-reaching.new.steps c.at-else-suspects-from.new.steps _ found.counted
    (omega (arith, c.at.ensures.cost, c.at-else-suspects-from.ensures.cost)) found.cost in
    omega (arith, bound)
