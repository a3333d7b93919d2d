use Rattle.std.proofs.Common.{◌∙◌, arith}
use Rattle.farm_entry.proofs.Priors.{total-made}
use Rattle.farm_entry.proofs.opening.Opening.prior_total.Goals as goal

pub overflow_add-result : goal.overflow_add-result
overflow_add-result c =
    let range = c.args.self.now.range in
    let total = total-made range.base range.suspects c.suspects.result.now range.calm c.weights_total.result c.from.result
    c.suspects.ensures.legal c.suspects.ensures.suspects c.weights_total.ensures (c.from.ensures ∙ c.calm.ensures.calm) in
    omega (arith, total.2)

pub returns-clause-total : goal.returns-clause-total
returns-clause-total c =
    let range = c.args.self.now.range in
    (total-made range.base range.suspects c.suspects.result.now range.calm c.weights_total.result c.from.result
    c.suspects.ensures.legal c.suspects.ensures.suspects c.weights_total.ensures (c.from.ensures ∙ c.calm.ensures.calm)).0

pub returns-clause-in_range : goal.returns-clause-in_range
returns-clause-in_range c =
    let range = c.args.self.now.range in
    let total = total-made range.base range.suspects c.suspects.result.now range.calm c.weights_total.result c.from.result
    c.suspects.ensures.legal c.suspects.ensures.suspects c.weights_total.ensures (c.from.ensures ∙ c.calm.ensures.calm) in
    (total.1, total.2)
