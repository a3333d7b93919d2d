use Rattle.std.proofs.Common.{sym, ap, ◌∙◌}
use Rattle.posterior.specs.Counted.{counted}
use Rattle.posterior.proofs.Counting.{counted-zeros}
use Rattle.posterior.proofs.tallies.Tallies.none.Goals as goal

pub invariant_of-result-clause-all_fails : goal.invariant_of-result-clause-all_fails
invariant_of-result-clause-all_fails c = sym (ap counted c.in_ok-zeros.ensures ∙ counted-zeros c.args.n)

pub invariant_of-result-clause-all_passes : goal.invariant_of-result-clause-all_passes
invariant_of-result-clause-all_passes c = sym (ap counted c.in_ok-zeros-2.ensures ∙ counted-zeros c.args.n)
