use Rattle.std.proofs.Common.{◌≡◌, arith}
use Rattle.posterior.specs.Counted.{counted}
use Rattle.posterior.proofs.Counting.{counted-cleared}
use Rattle.posterior.proofs.tallies.Tallies.clear.Goals as goal

pub returns-clause-none : goal.returns-clause-none
returns-clause-none c =
    let failed : c.clear_between-self.result ≡ counted c.clear_between-self.new.counts = c.clear_between-self.ensures.all in
    let passed : c.clear_between-self-2.result ≡ counted c.clear_between-self-2.new.counts = c.clear_between-self-2.ensures.all in
    let none : counted c.clear_between-self.new.counts ≡ 0 = counted-cleared c.clear_between-self.new.counts (λ p low high. c.clear_between-self.ensures.cleared p low (omega arith)) in
    let also : counted c.clear_between-self-2.new.counts ≡ 0 = counted-cleared c.clear_between-self-2.new.counts (λ p low high. c.clear_between-self-2.ensures.cleared p low (omega arith)) in
    omega arith
