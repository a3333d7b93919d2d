use Rattle.std.proofs.Common.{◌+◌, ◌-◌, ◌<◌, length, get_or, arith}
use Rattle.posterior.proofs.Counting.{counted-write, get_or-le-counted}
use Rattle.posterior.proofs.tallies.count_at.Goals as goal

pub overflow_add-counts : goal.overflow_add-counts
overflow_add-counts c =
    let short : c.args.position - 1 < length c.args.counts.now = omega arith in
    omega (arith, get_or-le-counted c.args.counts.now (c.args.position - 1) short)

pub returns-clause-all : goal.returns-clause-all
returns-clause-all c =
    let short : c.args.position - 1 < length c.args.counts.now = omega arith in
    omega (arith, counted-write c.args.counts.now (c.args.position - 1) (get_or c.args.counts.now (c.args.position - 1) 0 + 1) short)
