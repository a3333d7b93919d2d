use Rattle.std.proofs.Common.{rules, ap}
use Rattle.flake_rate.proofs.Values.{rate-in_limits, miss-in_limits}
use Rattle.weight_exact.proofs.FactorNumbers.{fail_in_positive, fail_out_positive, pass_in-zero, pass_out_positive}
use Rattle.weight_exact.specs.declared.factors.Factors.{Factors}
use Rattle.weight_exact.proofs.factors.Factors.of.Goals as goal

pub returns-clause-value : goal.returns-clause-value
returns-clause-value c = search rules

pub returns-clause-fail_in : goal.returns-clause-fail_in
returns-clause-fail_in c =
    let rate = c.args.rate in
    let miss = c.args.miss in
    rw (ap (λ (f : Factors). f.fail_in) (returns-clause-value c))
    (fail_in_positive rate.a rate.b miss.c miss.d (rate-in_limits rate) (miss-in_limits miss))

pub returns-clause-fail_out : goal.returns-clause-fail_out
returns-clause-fail_out c =
    let rate = c.args.rate in
    let miss = c.args.miss in
    rw (ap (λ (f : Factors). f.fail_out) (returns-clause-value c))
    (fail_out_positive rate.a rate.b miss.c miss.d (rate-in_limits rate) (miss-in_limits miss))

pub returns-clause-pass_in : goal.returns-clause-pass_in
returns-clause-pass_in c =
    let rate = c.args.rate in
    let miss = c.args.miss in
    rw (ap (λ (f : Factors). f.pass_in) (returns-clause-value c))
    (pass_in-zero rate.a rate.b miss.c miss.d (rate-in_limits rate))

pub returns-clause-pass_out : goal.returns-clause-pass_out
returns-clause-pass_out c =
    let rate = c.args.rate in
    let miss = c.args.miss in
    rw (ap (λ (f : Factors). f.pass_out) (returns-clause-value c))
    (pass_out_positive rate.a rate.b miss.c miss.d (rate-in_limits rate) (miss-in_limits miss))
