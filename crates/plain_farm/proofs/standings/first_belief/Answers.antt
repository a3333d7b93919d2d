use Rattle.std.proofs.Common.{ℕ, List, subst, sym}
use Rattle.weight_exact.specs.Limits.{ArePriors}
use Rattle.plain_farm.proofs.standings.first_belief.Goals as goal

pub start-requires-clause-priors : goal.start-requires-clause-priors
start-requires-clause-priors c =
    subst (λ (weights : List ℕ). ArePriors weights c.calm-calm.result) (sym c.deref.ensures.value)
    (subst (λ (calm : ℕ). ArePriors c.in_ok-weights.weights.items calm) (sym c.calm-calm.ensures.calm)
    c.in_ok-weights.ensures.priors)
