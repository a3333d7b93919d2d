use Rattle.std.proofs.Common.{◌≡◌, ◌+◌, ◌-◌, ◌<◌, ◌≤◌, length, arith, ◌∙◌, ⊎_elim}
use Rattle.std.proofs.lemmas.Bool.{cases_lt}
use Rattle.posterior.specs.Kept.{at}
use Rattle.posterior.specs.Counted.{counted}
use Rattle.posterior.proofs.Counting.{counted-write, at-write_other, at-write_same, get_or-le-counted}
use Rattle.posterior.proofs.tallies.clear_between.Goals as goal

pub returns-then-all-eq0-clause-cleared : goal.returns-then-all-eq0-clause-cleared
returns-then-all-eq0-clause-cleared c p low high =
    let xs = c.args.counts.now in
    let short : p - 1 < length xs = omega (arith, low, high) in
    let none : c.args.all ≡ 0 = c.if-all-eq0.true in
    let here : at xs p ≤ counted xs = get_or-le-counted xs (p - 1) short in
    omega (arith, here, none, c.requires.all)

pub overflow_sub-left : goal.overflow_sub-left
overflow_sub-left c =
    let short : c.loop-index.index < length c.loop-index.counts = omega arith in
    omega (arith, get_or-le-counted c.loop-index.counts c.loop-index.index short, c.loop-index.invariant.all)

pub loop-index-preserved : goal.loop-index-preserved
loop-index-preserved c =
    let i = c.loop-index.invariant in
    let xs = c.loop-index.counts in
    let index = c.loop-index.index in
    let short : index < length xs = omega arith in
    record {
      cleared = λ p low high.
          ⊎_elim
          (λ (before : p < index + 1). at-write_other xs index 0 p low (λ e. (let h : p ≡ index + 1 = e in omega arith)) ∙ i.cleared p low (omega arith))
          (λ (here : index + 1 ≤ p). at-write_same xs index 0 p short (omega arith))
          (cases_lt p (index + 1));
      above = λ p high. at-write_other xs index 0 p (omega arith) (λ e. (let h : p ≡ index + 1 = e in omega arith)) ∙ i.above p (omega arith);
      all = omega (arith, counted-write xs index 0 short, get_or-le-counted xs index short, i.all);
      fewer = omega (arith, i.fewer);
    }
