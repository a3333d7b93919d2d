use Rattle.search_state.proofs.Deciding.{begun-by, begun-can_pick, begun-named}
use Rattle.search_state.proofs.decided.begun.Goals as goal

pub first_pick-requires-clause-sums : goal.first_pick-requires-clause-sums
first_pick-requires-clause-sums c = λ searching.
    let r = c.requires.believed in
    begun-can_pick r.0 r.1 c.args.belief.now c.args.bar c.args.suspects c.args.skips.now
    c.first_standing-standing.result r.2 (c.first_standing-standing.ensures r.0 r.1 r.2) searching

pub first_verification-requires : goal.first_verification-requires
first_verification-requires c = λ culprit names.
    let r = c.requires.believed in
    begun-named r.0 r.1 c.args.skips.now c.first_standing-standing.result
    (c.first_standing-standing.ensures r.0 r.1 r.2) culprit names

pub returns : goal.returns
returns c = λ o told believed width asked.
    begun-by o told c.args.skips.now c.args.belief.now c.args.width c.args.asked c.first_standing-standing.result
    c.first_pick.result c.first_verification.result width asked (c.first_standing-standing.ensures o told believed)
    c.first_pick.ensures c.first_verification.ensures
