use Rattle.std.proofs.Common.{◌≤◌, arith}
use Rattle.farm_entry.specs.declared.limits.TheConstants.{MAX_SEARCHES}
use Rattle.farm_state.specs.Moves.{Turns, turns_in}
use Rattle.farm_state.proofs.Places.{prior_in-le}
use Rattle.farm_state.proofs.moves.place.Goals as goal

pub overflow_cast-result : goal.overflow_cast-result
overflow_cast-result c =
    let low : c.args.search ≤ MAX_SEARCHES = c.requires.few c.args.search c.requires.stands in omega (arith, low)

pub overflow_cast-result-2 : goal.overflow_cast-result-2
overflow_cast-result-2 c =
    let t : Turns = turns_in c.args.active.now in
    let low = prior_in-le c.place-fresh.result.0 c.args.search MAX_SEARCHES t (λ n there. c.requires.few n there) in
    omega (arith, low, c.place-fresh.ensures.prior)
