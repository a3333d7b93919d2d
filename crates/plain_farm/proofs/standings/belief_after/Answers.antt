use Rattle.plain_farm.proofs.Beliefs.{told_fit, told_in_range}
use Rattle.plain_farm.proofs.Histories.{opened_miss}
use Rattle.plain_farm.proofs.standings.belief_after.Goals as goal

pub first_belief-requires : goal.first_belief-requires
first_belief-requires c = record { told = opened_miss c.args.history.now c.args.opening.now c.requires.legal c.requires.opened }

pub tell-requires-clause-in_range : goal.tell-requires-clause-in_range
tell-requires-clause-in_range c =
    told_in_range c.args.history.now c.args.opening.now c.in_ok-belief.belief.setup c.args.told.now c.requires.legal c.requires.opened
    c.in_ok-belief.ensures.setup c.requires.runs

pub tell-requires-clause-fit : goal.tell-requires-clause-fit
tell-requires-clause-fit c =
    told_fit c.args.history.now c.args.opening.now c.in_ok-belief.belief.setup c.args.told.now c.requires.legal c.requires.opened
    c.in_ok-belief.ensures.setup c.requires.runs
