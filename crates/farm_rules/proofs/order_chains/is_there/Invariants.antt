use Rattle.farm_rules.proofs.ChainWalks.{IsSought}
use Rattle.farm_rules.proofs.order_chains.is_there.Given as goal

abbrev pub invariant-loop-at : goal.invariant-loop-at
invariant-loop-at l = IsSought l.commit l.heads l.items l.at

abbrev pub decreases-loop-at : goal.decreases-loop-at
decreases-loop-at l = l.at
