use Rattle.std.proofs.Common.{◌≤◌, arith, length}
use Rattle.threshold_pick.proofs.Firsts.{IsLast-last_below}
use Rattle.threshold_pick.proofs.Blocks.{block-range, sum_upto-le, sum_upto-le-whole}
use Rattle.threshold_pick.proofs.hidden.is_hidden_on.Goals.{After-first_at}
use Rattle.threshold_pick.proofs.hidden.is_hidden_on.Goals as goal

-- the block lies within the sums
range : (g : _) (c : After-first_at g) → (c.last_below.result ≤ c.first_at.result)
    × (c.first_at.result ≤ length c.args.sums.now)
range g c =
    let middle = c.middle-middle.ensures in
    block-range c.args.sums.now c.args.skips.now c.middle-middle.result c.suspects.result c.last_below.result
    c.first_at.result c.suspects.ensures middle.first (omega (arith, middle.last, c.suspects.ensures))
    c.last_below.ensures c.first_at.ensures

pub sum_to-before-requires : goal.sum_to-before-requires
sum_to-before-requires g c =
    let upto = (IsLast-last_below c.args.skips.now c.middle-middle.result).upto in
    let some = c.requires.sums.some in
    omega (arith, upto, some, c.last_below.ensures, c.middle-middle.ensures.last)

pub sum_to-upto-requires : goal.sum_to-upto-requires
sum_to-upto-requires g c = (range g (goal.at.sum_to-upto-requires g c).After-first_at).1

pub overflow_sub-upto : goal.overflow_sub-upto
overflow_sub-upto g c =
    let within = range g (goal.at.overflow_sub-upto g c).After-first_at in
    rw (c.sum_to-before.ensures, c.sum_to-upto.ensures)
    (sum_upto-le c.args.sums.now c.last_below.result c.first_at.result c.requires.sums.rising within.0 within.1)

pub is_at_bar-requires-clause-part : goal.is_at_bar-requires-clause-part
is_at_bar-requires-clause-part g c =
    let within = range g (goal.at.is_at_bar-requires-clause-part g c).After-first_at in
    let some : 1 ≤ length c.args.sums.now = omega (arith, c.suspects.ensures) in
    let upto =
    sum_upto-le-whole c.args.sums.now c.first_at.result c.requires.sums.rising some within.1 in
    omega (arith, upto, c.sum_to-upto.ensures, c.total.ensures)
